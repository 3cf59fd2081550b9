-- What is found where something is seen.
use Rattle.std.proofs.Common.{◌&&◌, ◌∙◌, ap, is_some, not, ◌≡◌, ◌≢◌, ◌∷◌, refl, Bool, List, Option, Some, false, if◌then◌else◌, subst, sym, true, ℕ}
use Rattle.vd_environments.specs.Environments.{Env, Indicated}
use Rattle.vd_operations.specs.Roles.{read_role}
use Rattle.vd_operations.specs.declared.roles.Role.{Role as WrittenRole}
use Rattle.vd_operations.specs.declared.roles.Role.TheVariants as written
use Rattle.vd_forest.specs.Forest.{Forest}
use Rattle.vd_value_rules.specs.declared.forms.IndicatedForm.{IndicatedForm}
use Rattle.vd_value_rules.specs.Made.{Indicates}
use Rattle.vd_known_designs.specs.Known.{AreKnown}
use Rattle.vd_meaning.specs.Kinds.{kind}
use Rattle.vd_meaning.specs.Names.{number_or}
use Rattle.vd_meaning.specs.Tables.{Table, followed, is_predefined}
use Rattle.vd_resolved.specs.declared.node.Resolved.{Resolved}
use Rattle.vd_known_lengths.specs.Extents.{CanSee, IsExtent, Sees}
use Rattle.vd_known_lengths.specs.declared.extents.Extent.{Extent}
use Rattle.vd_known_lengths.specs.declared.over.Over.{Over}
use Rattle.vd_static_values.specs.Entries.{table_of}
use Rattle.vd_static_values.specs.declared.entries.Ground.{Ground}
use Rattle.vd_static_names.specs.Known.{HasSubtypes}
use Rattle.vd_value_rules.specs.Declaring.{result_in}
use Rattle.vd_value_rules.specs.Designs.{Design}
use Rattle.vd_value_rules.specs.Knowledge.{Known, at_mark, indicated_of}
use Rattle.vd_value_rules.specs.Lengths.{Shaped, calls_written, first_shaped, is_operator, selection_shaped, shaped_by}

-- what a table has for a declaration
abbrev pub Chooses : Over → ℕ → ℕ → Type 0
Chooses x n number =
    (t : Table) (k : Known) (ks : List Known) → AreKnown t x.table.now (k ∷ ks) → Indicates x.table.now.subtypes number (indicated_of (k.choosing.denotes n))

module _ (x : Over) where
  pub marked_is : (mark : Option ℕ) (n number : ℕ) → mark ≡ Some n → Chooses x n number
      → (d : Design) (k : Known) → Sees x d k → Indicates x.ground.subtypes.now number (at_mark mark k.choosing)
  marked_is mark n number is chooses d k sees =
      subst (λ m. Indicates x.ground.subtypes.now number (at_mark m k.choosing)) (sym is)
      (subst (λ s. Indicates s number (at_mark (Some n) k.choosing)) sees.subtypes (chooses d.table k sees.round sees.known))

  pub has_subtypes : CanSee x → HasSubtypes x.ground
  has_subtypes c = λ n. (c.sees.ground n).within

module _ (store : List (Forest IndicatedForm)) (number n : ℕ) (d : Design) (t : Table) (e : Env) (same : d.table ≡ t) (b : Bool) (is : b ≡ is_predefined t n) where
  pub result_predefined : b ≡ true → Indicates store number (at_mark (t.declared n).mark e) → Indicates store number (result_in d n e)
  result_predefined given indicates =
      subst (λ (u : Table). Indicates store number (if is_predefined u n then at_mark (u.declared n).mark e else at_mark (Some n) e)) (sym same)
      (subst (λ c. Indicates store number (if c then at_mark (t.declared n).mark e else at_mark (Some n) e)) is
      (subst (λ c. Indicates store number (if c then at_mark (t.declared n).mark e else at_mark (Some n) e)) (sym given) indicates))

  pub result_written : b ≡ false → Indicates store number (at_mark (Some n) e) → Indicates store number (result_in d n e)
  result_written own indicates =
      subst (λ (u : Table). Indicates store number (if is_predefined u n then at_mark (u.declared n).mark e else at_mark (Some n) e)) (sym same)
      (subst (λ c. Indicates store number (if c then at_mark (t.declared n).mark e else at_mark (Some n) e)) is
      (subst (λ c. Indicates store number (if c then at_mark (t.declared n).mark e else at_mark (Some n) e)) (sym own) indicates))

-- the extent of a subtype that is another one
pub same_extent : (store : List (Forest IndicatedForm)) (x : Extent) (i j : Indicated) → i ≡ j → IsExtent store x (shaped_by i) → IsExtent store x (shaped_by j)
same_extent store x i j same is = subst (λ s. IsExtent store x (shaped_by s)) same is

-- a selection of what is no element
module _ (store : List (Forest IndicatedForm)) (x : Extent) (d : Design) (k : Known) (n : Resolved) (p : Shaped) where
  pub selected_other : (r : WrittenRole) → r ≢ written.Element → IsExtent store x (first_shaped (read_role r) d k n)
      → IsExtent store x (selection_shaped (read_role r) d k n p)
  selected_other written.Constant other is = is
  selected_other written.Variable other is = is
  selected_other written.Signal other is = is
  selected_other written.Literal other is = is
  selected_other written.Function other is = is
  selected_other written.Mark other is = is
  selected_other written.Element other is = absurd (other refl)
  selected_other written.Nothing other is = is

-- whether an operator is one that is written
module _ (d : Design) (g : Ground) (n : Resolved) (a b c : Bool) (f : ℕ) (operator : a ≡ is_operator (kind n.form)) (found : b ≡ is_some n.declaration)
    (function : f ≡ followed (table_of g) (number_or n.declaration)) (given : c ≡ is_predefined (table_of g) f) (same : d.table ≡ table_of g) where
  pub written_is : a ≡ true → b ≡ true → not c ≡ calls_written d n
  written_is is there =
      let own = not (is_predefined d.table (followed d.table (number_or n.declaration))) in
      ap not (given ∙ ap (is_predefined (table_of g)) function ∙ ap (λ t. is_predefined t (followed t (number_or n.declaration))) (sym same))
      ∙ subst (λ v. own ≡ (v && (is_some n.declaration && own))) (sym is ∙ operator) (subst (λ v. own ≡ (true && (v && own))) (sym there ∙ found) refl)
