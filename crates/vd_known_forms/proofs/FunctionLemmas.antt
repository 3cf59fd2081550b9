-- Functions in the table of what is known.
use Rattle.std.proofs.Common.{◌≡◌, ◌∷◌, Bool, List, ap, false, not, refl, subst, sym, true, ℕ, ◌∙◌}
use Rattle.std.specs.Prelude.{Err, None, Ok, OnOk, Option, Result}
use Rattle.vd_composites.specs.Composites.{Value}
use Rattle.vd_environments.specs.Environments.{Denotation, Indicated, Static, all_bounds}
use Rattle.vd_environments.specs.Got.{senseless}
use Rattle.vd_operations.proofs.PassingLemmas.{nth_skipped}
use Rattle.vd_forest.specs.Forest.{Forest, skipped}
use Rattle.vd_forest.specs.Store.{at}
use Rattle.vd_value_rules.specs.Indicated.{indicated_in, static_of}
use Rattle.vd_value_rules.specs.declared.forms.IndicatedForm.{IndicatedForm}
use Rattle.vd_value_rules.specs.declared.statics.StaticSort.{StaticSort}
use Rattle.vd_static_names.specs.Jumps.{AreJumps}
use Rattle.vd_value_rules.specs.Made.{Indicates}
use Rattle.vd_known_designs.specs.Designs.{AreIndicated, Knows}
use Rattle.vd_known_designs.specs.declared.design.KnownDesign.{KnownDesign}
use Rattle.vd_known_designs.specs.declared.indications.TwoSubtypes.{TwoSubtypes}
use Rattle.vd_known_designs.specs.Known.{AreKnown}
use Rattle.vd_known_designs.specs.declared.table.KnownTable.{KnownTable}
use Rattle.vd_meaning.specs.Facets.{nth}
use Rattle.vd_meaning.specs.Meanings.{made, meanings}
use Rattle.vd_meaning.specs.Names.{number_or}
use Rattle.vd_meaning.specs.Tables.{Table}
use Rattle.vd_resolved.specs.declared.node.Resolved.{Resolved}
use Rattle.vd_static_values.specs.Entries.{IsEntry}
use Rattle.vd_static_values.specs.declared.entries.Entry.{Entry}
use Rattle.vd_value_rules.specs.Declaring.{function_denoted, function_known, result_known, with_text}
use Rattle.vd_value_rules.specs.Designs.{Design}
use Rattle.vd_value_rules.specs.Knowledge.{Known, at_mark, denoted, indicated_of, meaning_at}
use Rattle.vd_values.specs.declared.scalar.Scalar.{Scalar}

on_ok : {A E : Type 0} {P Q : Type 0} (r : Result A E) → (P → Q) → OnOk r P → OnOk r Q
on_ok (Ok x) f p = f p
on_ok (Err e) f p = tt

no_local : {A : Type 0} → false ≡ true → A
no_local h = absurd (cc)

-- what stands in the table for a function whose calls aren't locally static
abbrev pub later_function : Value Scalar → ℕ → StaticSort → Bool → Entry
later_function value own bounds is_inside =
    record {
      value = value;
      known = record { is_local = false; is_global = not is_inside };
      subtype = own;
      bounds = bounds;
      shape = None;
      is_signal = false;
      operator = None;
    }

abbrev later_known : Bool → Static
later_known is_inside = record { is_local = false; is_global = not is_inside }

function_entry : (fs : List (Forest IndicatedForm)) (t : Table) (value : Value Scalar) (own : ℕ) (bounds : StaticSort) (b : Bool) (i : Indicated) → Indicates fs own i
    → static_of bounds ≡ all_bounds (indicated_in (at fs own)).make → IsEntry fs t (later_function value own bounds b) (function_denoted i (λ _. senseless) (later_known b))
function_entry fs t value own bounds b i is of_bounds = record {
  within = is.within;
  subtype = is.is;
  bounds = of_bounds ∙ ap (λ j. all_bounds j.make) is.is;
  known = refl;
  value = λ local. no_local local;
  value_shape = refl;
  signal_shape = refl;
  function = λ local. no_local local;
}

module _ {A E : Type 0} (d : Design) (x : KnownDesign) (k : Known) (ks : List Known) where
  -- the result is set in the table
  pub result_set : (ss : List (Forest IndicatedForm)) (y : KnownTable) (n g : ℕ) (mark : Option ℕ) (of : TwoSubtypes) (value : Value Scalar) (bounds : StaticSort) (b : Bool) (r : Result A E)
      → ss ≡ x.table.subtypes → g ≡ n → Knows d x (k ∷ ks) → AreIndicated x.table.subtypes of (record { own = at_mark mark k.env; choosing = at_mark mark k.choosing })
      → static_of bounds ≡ all_bounds (indicated_in (at x.table.subtypes of.own)).make
      → ((t : Table) (l : Known) (ls : List Known) → AreKnown t (record x.table { subtypes = ss }) (l ∷ ls) → b ≡ l.env.is_inside)
      → y.subtypes ≡ ss
      → ((t : Table) (own c : Denotation) (l : Known) (ls : List Known) → AreKnown t (record x.table { subtypes = ss }) (l ∷ ls)
      → IsEntry ss t (later_function value of.own bounds b) own → Indicates ss of.choosing (indicated_of c) → OnOk r (AreKnown t y (denoted g own c l ∷ ls)))
      → OnOk r (Knows d (record x { table = y }) (result_known n mark k ∷ ks))
  result_set ss y n g mark of value bounds b r same number knows are of_bounds inside kept set =
      let was : AreKnown d.table (record x.table { subtypes = ss }) (k ∷ ks) = subst (λ fs. AreKnown d.table (record x.table { subtypes = fs }) (k ∷ ks)) (sym same) knows.known in
      let entry = subst (λ fs. IsEntry fs d.table (later_function value of.own bounds b) (function_denoted (at_mark mark k.env) (λ _. senseless) (later_known b))) (sym same)
      (function_entry x.table.subtypes d.table value of.own bounds b (at_mark mark k.env) are.own of_bounds) in
      let choosing = subst (λ fs. Indicates fs of.choosing (at_mark mark k.choosing)) (sym same) are.choosing in
      on_ok r (λ known. record {
        table = knows.table;
        known = subst (λ m. AreKnown d.table y (denoted m (function_denoted (at_mark mark k.env) (λ _. senseless) (later_known k.env.is_inside))
            (function_denoted (at_mark mark k.choosing) (λ _. senseless) Rattle.vd_environments.specs.Environments.never) k ∷ ks)) number known;
        jumps = subst (AreJumps x.fields.jumps.items) (sym (kept ∙ same)) knows.jumps;
      })
      (set d.table (function_denoted (at_mark mark k.env) (λ _. senseless) (later_known k.env.is_inside))
      (function_denoted (at_mark mark k.choosing) (λ _. senseless) Rattle.vd_environments.specs.Environments.never) k ks was
      (subst (λ c. IsEntry ss d.table (later_function value of.own bounds b) (function_denoted (at_mark mark k.env) (λ _. senseless) (later_known c))) (inside d.table k ks was) entry) choosing)

  -- and then the text
  pub function_set : (y : KnownTable) (n : Resolved) (parts text : Forest Resolved) (f g : ℕ) (mark : Option ℕ) (r : Result A E) → f ≡ number_or (made n (meaning_at d 1 parts))
      → mark ≡ (meaning_at d 5 parts).declaration → g ≡ f → text ≡ parts → Knows d x (result_known f mark k ∷ ks) → y.subtypes ≡ x.table.subtypes
      → ((t : Table) (l : Known) (ls : List Known) → AreKnown t x.table (l ∷ ls) → OnOk r (AreKnown t y (with_text g text l ∷ ls)))
      → OnOk r (Knows d (record x { table = y }) (function_known d n parts k ∷ ks))
  function_set y n parts text f g mark r made named number same knows kept set =
      on_ok r (λ known. record {
        table = knows.table;
        known =
            subst (λ h. AreKnown d.table y (with_text h parts (result_known h (meaning_at d 5 parts).declaration k) ∷ ks)) made
            (subst (λ m. AreKnown d.table y (with_text f parts (result_known f m k) ∷ ks)) named
            (subst (λ h. AreKnown d.table y (with_text h parts (result_known f mark k) ∷ ks)) number
            (subst (λ q. AreKnown d.table y (with_text g q (result_known f mark k) ∷ ks)) same known)));
        jumps = subst (AreJumps x.fields.jumps.items) (sym kept) knows.jumps;
      })
      (set d.table (result_known f mark k) ks knows.known)

-- what is read of a part
pub at_part : {B : Type 0} (d : Design) (n : ℕ) (parts skips : Forest Resolved) (of : Rattle.vd_meaning.specs.Facets.Meaning → B) → skips ≡ skipped n parts
    → of (nth 0 (meanings d.table skips)) ≡ of (meaning_at d n parts)
at_part d n parts skips of is = ap (λ f. of (nth 0 (meanings d.table f))) is ∙ ap of (sym (nth_skipped n d.table parts))
