-- What an expression comes to has its syntax, and leaves what is known at the place.
use Rattle.std.proofs.Common.{◌≡◌, ◌⊎◌, inl, inr, ℕ, Bool, true, false, List, [], ◌∷◌, Option, Some, None, if◌then◌else◌, refl, sym, ◌∙◌, subst}
use Rattle.std.proofs.lemmas.Bool.{false≢true}
use Rattle.vd_bytes.specs.declared.places.Place.{Place}
use Rattle.vd_forest.specs.Forest.{Forest, nothing, more, joined}
use Rattle.vd_forms.specs.declared.form.Form.{Form}
use Rattle.vd_forms.specs.declared.form.Form.TheVariants as form
use Rattle.vd_forms.specs.Forms.{is_among, expressions}
use Rattle.vd_forms.specs.Validity.{AreValid}
use Rattle.vd_trees.specs.declared.revision.Revision.{Revision}
use Rattle.vd_resolved.specs.Trees.{syntax_of}
use Rattle.vd_resolved.specs.declared.node.Resolved.{Resolved}
use Rattle.vd_overloads.specs.Environment.{rules_at, scene_at}
use Rattle.vd_overloads.specs.Interpretations.{interpretations}
use Rattle.vd_overloads.specs.declared.wanted.Wanted.{Wanted}
use Rattle.vd_overloads.specs.declared.wanted.Wanted.TheVariants as wanted
use Rattle.vd_name_rows.specs.declared.steps.Want as step
use Rattle.vd_name_rows.specs.declared.steps.Want.TheVariants as places
use Rattle.vd_name_rows.specs.declared.steps.Step.TheVariants as steps
use Rattle.vd_name_rows.specs.Designs.{At, Design, Outcome, standpoint, sight, gives}
use Rattle.vd_naming.specs.Expressions.{resolved, unresolved, only_reading, read_as, mark_states, mark_readings, read_as_mark, mark_declared, type_declared, fits_wanted, with_node, bounds_as, bounds_if, bounds_of_type, narrowed, where_known, with_mark, index_type, wanted_at, is_absent, expression}
use Rattle.vd_naming_laws.specs.Keeping.{IsImplied}
use Rattle.vd_naming_laws.proofs.Trees.{syntax_joined}
use Rattle.vd_naming_laws.proofs.Fitting.{two_parts, range_parts}
use Rattle.vd_naming_laws.proofs.Readings.{unresolved_keeps, only_gives, only_keeps, readings_keep, is_plain, plain_keep, condition_keeps}

-- some trees come to these, and what is known at the place stays
pub record IsRead (at : At) (tree : Forest Form) (o : Outcome) : Type 0 where
  pub tree_is : syntax_of o.tree ≡ tree
  pub at_is : o.at ≡ at

pub if_both : {A : Type 0} (P : A → Type 0) (b : Bool) (x y : A) → P x → P y → P (if b then x else y)
if_both P true x y p q = p
if_both P false x y p q = q

abbrev pub AllPlain : Option Wanted → Type 0
AllPlain None = Unit {0}
AllPlain (Some w) = is_plain w ≡ true

pub plain_mark : (make : ℕ → Wanted) → ((t : ℕ) → is_plain (make t) ≡ true) → (t : Option ℕ) → AllPlain (with_mark make t)
plain_mark make plain None = tt
plain_mark make plain (Some t) = plain t

abbrev pub is_condition_want : step.Want → Bool
is_condition_want places.Condition = true
is_condition_want _ = false

module _ (at : At) (d : Design) where
  pub not_named : (t : Forest Form) → IsRead at t (gives at d (unresolved t) None)
  not_named t = record { tree_is = unresolved_keeps t; at_is = refl }

  -- ---- readings by themselves

  pub read_keeps : (w : Wanted) → is_plain w ≡ true → (f : Form) (text : List ℕ) (place : Place) (parts : Forest Form)
      → IsRead at (more f text place parts nothing) (read_as at d w (more f text place parts nothing))
  read_keeps w plain f text place parts =
      let t = more f text place parts nothing in
      record {
        tree_is = only_keeps t (interpretations (rules_at (standpoint at d)) (scene_at (standpoint at d)) w t)
            (plain_keep (rules_at (standpoint at d)) (scene_at (standpoint at d)) w plain t);
        at_is = refl;
      }

  pub marks_keep : (f : Form) (text : List ℕ) (place : Place) (parts : Forest Form)
      → syntax_of (only_reading (more f text place parts nothing) (mark_readings at d (more f text place parts nothing))) ≡ more f text place parts nothing
  marks_keep f text place parts =
      let t = more f text place parts nothing in
      only_keeps t (mark_readings at d t) (readings_keep (rules_at (standpoint at d)) t (mark_states (sight at d)))

  pub read_as_mark_keeps : (f : Form) (text : List ℕ) (place : Place) (parts : Forest Form)
      → IsRead at (more f text place parts nothing) (read_as_mark at d (more f text place parts nothing))
  read_as_mark_keeps f text place parts = record { tree_is = marks_keep f text place parts; at_is = refl }

  -- ---- a mark with a range

  -- a node over two trees
  with_node_keeps : (f : Form) (text : List ℕ) (place : Place) (node : Resolved) (a b : Forest Form) (o p : Outcome) → node.form ≡ f → text ≡ [] → IsRead at a o → IsRead at b p
      → IsRead at (more f text place (joined a b) nothing) (with_node node place o p)
  with_node_keeps f text place node a b o p form no_text x y =
      record {
        tree_is = (λ i. more (form i) (sym no_text i) place (syntax_joined o.tree p.tree i) nothing)
            ∙ (λ i. more f text place (joined (x.tree_is i) (y.tree_is i)) nothing);
        at_is = x.at_is;
      }

  bounds_keep : (r : Revision) (keep : Bool) (t : ℕ) (f : Form) (text : List ℕ) (place : Place) (parts : Forest Form)
      → is_among (form.Ascending ∷ form.Descending ∷ []) f ≡ true → AreValid r keep (more f text place parts nothing)
      → IsRead at (more f text place parts nothing) (bounds_as at d t (more f text place parts nothing))
  bounds_keep r keep t f text place parts range v =
      let is = range_parts r f text parts range v.2 v.1 in
      let two = is.are_two in
      subst (λ ps. IsRead at (more f text place ps nothing) (bounds_as at d t (more f text place ps nothing))) (sym two.is)
      (with_node_keeps f text place (resolved f None (Some t)) (more two.f two.text two.place two.inside nothing) (more two.g two.text' two.place' two.inside' nothing)
      (read_as at d (wanted.OfType t) (more two.f two.text two.place two.inside nothing)) (read_as at d (wanted.OfType t) (more two.g two.text' two.place' two.inside' nothing))
      refl is.no_text (read_keeps (wanted.OfType t) refl two.f two.text two.place two.inside) (read_keeps (wanted.OfType t) refl two.g two.text' two.place' two.inside'))

  bounds_if_keep : (r : Revision) (keep : Bool) (fits : Bool) (t : ℕ) (whole : Place) (f : Form) (text : List ℕ) (place : Place) (parts : Forest Form)
      → is_among (form.Ascending ∷ form.Descending ∷ []) f ≡ true → AreValid r keep (more f text place parts nothing)
      → IsRead at (more f text place parts nothing) (bounds_if fits at d t whole (more f text place parts nothing))
  bounds_if_keep r keep true t whole f text place parts range v = bounds_keep r keep t f text place parts range v
  bounds_if_keep r keep false t whole f text place parts range v = record { tree_is = unresolved_keeps (more f text place parts nothing); at_is = refl }

  bounds_of_type_keep : (r : Revision) (keep : Bool) (t : Option ℕ) (w : Wanted) (whole : Place) (f : Form) (text : List ℕ) (place : Place) (parts : Forest Form)
      → is_among (form.Ascending ∷ form.Descending ∷ []) f ≡ true → AreValid r keep (more f text place parts nothing)
      → IsRead at (more f text place parts nothing) (bounds_of_type t w at d whole (more f text place parts nothing))
  bounds_of_type_keep r keep None w whole f text place parts range v = not_named (more f text place parts nothing)
  bounds_of_type_keep r keep (Some t) w whole f text place parts range v =
      bounds_if_keep r keep (fits_wanted w (sight at d) t) t whole f text place parts range v

  narrowed_keeps : (r : Revision) (keep : Bool) (w : Wanted) (text : List ℕ) (place : Place) (parts : Forest Form)
      → AreValid r keep (more form.DiscreteSubtype text place parts nothing) → IsRead at (more form.DiscreteSubtype text place parts nothing) (narrowed w at d place parts)
  narrowed_keeps r keep w text place parts v =
      let two = two_parts expressions (form.Ascending ∷ form.Descending ∷ []) parts v.1 in
      let within : AreValid r false (more two.f two.text two.place two.inside (more two.g two.text' two.place' two.inside' nothing)) = subst (AreValid r false) two.is v.4 in
      let mark = more two.f two.text two.place two.inside nothing in
      let bounds = more two.g two.text' two.place' two.inside' nothing in
      let o = read_as_mark at d mark in
      let t = type_declared (sight at d) (mark_declared o.tree) in
      subst (λ ps. IsRead at (more form.DiscreteSubtype text place ps nothing) (narrowed w at d place ps)) (sym two.is)
      (with_node_keeps form.DiscreteSubtype text place (resolved form.DiscreteSubtype None t) mark bounds o (bounds_of_type t w at d place bounds) refl v.2
      (read_as_mark_keeps two.f two.text two.place two.inside)
      (bounds_of_type_keep r false t w place two.g two.text' two.place' two.inside' two.second within.5))

  -- ---- what is wanted

  pub where_known_keeps : (r : Revision) (keep : Bool) (w : Option Wanted) → AllPlain w → (f : Form) (text : List ℕ) (place : Place) (parts : Forest Form)
      → AreValid r keep (more f text place parts nothing) → IsRead at (more f text place parts nothing) (where_known w at d (more f text place parts nothing))
  where_known_keeps r keep None plain f text place parts v = record { tree_is = unresolved_keeps (more f text place parts nothing); at_is = refl }
  where_known_keeps r keep (Some w) plain form.DiscreteSubtype text place parts v = narrowed_keeps r keep w text place parts v
  where_known_keeps r keep (Some w) plain f text place parts v = read_keeps w plain f text place parts

  wanted_plain : (w : step.Want) → is_condition_want w ≡ false → AllPlain (wanted_at w at d)
  wanted_plain places.AtHand other = plain_mark wanted.OfType (λ t. refl) at.mark
  wanted_plain (places.Given t) other = refl
  wanted_plain places.Condition other = absurd (false≢true (sym other))
  wanted_plain places.Free other = refl
  wanted_plain places.Choice other = plain_mark wanted.Choice (λ t. refl) at.selector
  wanted_plain places.Range other = plain_mark wanted.Range (λ t. refl) at.mark
  wanted_plain places.Index other = plain_mark wanted.DiscreteRange (λ t. refl) (index_type (sight at d) at.mark)
  wanted_plain places.AnyRange other = refl

  pub expression_keeps : (r : Revision) (keep : Bool) (w : step.Want) → is_condition_want w ≡ false → (f : Form) (text : List ℕ) (place : Place) (parts : Forest Form)
      → AreValid r keep (more f text place parts nothing) → IsRead at (more f text place parts nothing) (expression w at d (more f text place parts nothing))
  expression_keeps r keep w other f text place parts v =
      let t = more f text place parts nothing in
      if_both (IsRead at t) (is_absent t) (gives at d (unresolved t) None) (where_known (wanted_at w at d) at d t) (not_named t)
      (where_known_keeps r keep (wanted_at w at d) (wanted_plain w other) f text place parts v)

  -- ---- conditions

  pub record IsConditionRead (r : Revision) (f : Form) (text : List ℕ) (place : Place) (parts : Forest Form) (o : Outcome) : Type 0 where
    pub tree_is : (syntax_of o.tree ≡ more f text place parts nothing) ⊎ IsImplied r (steps.Expression places.Condition) f text place parts (syntax_of o.tree)
    pub at_is : o.at ≡ at

  pub same_condition : (r : Revision) (f : Form) (text : List ℕ) (place : Place) (parts : Forest Form) (o : Outcome) → IsRead at (more f text place parts nothing) o
      → IsConditionRead r f text place parts o
  same_condition r f text place parts o x = record { tree_is = inl x.tree_is; at_is = x.at_is }

  condition_read : (r : Revision) → at.revision ≡ r → (f : Form) (text : List ℕ) (place : Place) (parts : Forest Form) → is_among expressions f ≡ true
      → IsConditionRead r f text place parts (read_as at d wanted.Condition (more f text place parts nothing))
  condition_read r is f text place parts e =
      let t = more f text place parts nothing in
      record {
        tree_is = only_gives (λ x. (syntax_of x ≡ t) ⊎ IsImplied r (steps.Expression places.Condition) f text place parts (syntax_of x)) t
            (interpretations (rules_at (standpoint at d)) (scene_at (standpoint at d)) wanted.Condition t) (inl (unresolved_keeps t))
            (λ x c. elim (condition_keeps (rules_at (standpoint at d)) (scene_at (standpoint at d)) f text place parts nothing x c) [
              | inl same ↦ inl same
              | inr under ↦ inr (record { revision = sym is ∙ under.revision; condition = refl; expression = e; under = under.under })
            ]);
        at_is = refl;
      }

  pub condition_expression_keeps : (r : Revision) (keep : Bool) → at.revision ≡ r → (f : Form) (text : List ℕ) (place : Place) (parts : Forest Form)
      → is_among (form.Absent ∷ expressions) f ≡ true → AreValid r keep (more f text place parts nothing)
      → IsConditionRead r f text place parts (expression places.Condition at d (more f text place parts nothing))
  condition_expression_keeps r keep is form.Absent text place parts e v =
      same_condition r form.Absent text place parts (gives at d (unresolved (more form.Absent text place parts nothing)) None) (not_named (more form.Absent text place parts nothing))
  condition_expression_keeps r keep is form.DiscreteSubtype text place parts e v = absurd (false≢true e)
  condition_expression_keeps r keep is f text place parts e v = condition_read r is f text place parts e
