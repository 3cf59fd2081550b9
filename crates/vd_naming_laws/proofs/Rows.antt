-- The rows of the forms suit the slots of their parts: which forms stand where a step makes a leaf anew, or wants a condition.
use Rattle.std.proofs.Common.{◌≡◌, Bool, true, false, ◌&&◌, ◌||◌, not, List, [], ◌∷◌, refl}
use Rattle.std.specs.List.{list_all}
use Rattle.std.proofs.lemmas.Bool.{and_parts, and_from, false≢true}
use Rattle.vd_forest.specs.Forest.{Forest}
use Rattle.vd_trees.specs.declared.revision.Revision.{Revision}
use Rattle.vd_trees.specs.declared.revision.Revision.TheVariants.{V2019, V1993}
use Rattle.vd_forms.specs.declared.form.Form.{Form}
use Rattle.vd_forms.specs.declared.form.Form.TheVariants as form
use Rattle.vd_forms.specs.Forms.{is_among, expressions}
use Rattle.vd_forms.specs.Slots.{Slot, One, Many, slots_of}
use Rattle.vd_forms.specs.Validity.{fits, keeps_brackets}
use Rattle.vd_name_rows.specs.Rows.{row_of}
use Rattle.vd_name_rows.specs.declared.steps.Step.{Step}
use Rattle.vd_name_rows.specs.declared.steps.Step.TheVariants as step
use Rattle.vd_naming.specs.Naming.{steps_behind}
use Rattle.vd_naming_laws.specs.Keeping.{first_step, is_condition}
use Rattle.vd_naming_laws.proofs.Fitting.{leaves}

-- the step makes the node of a leaf anew
abbrev pub makes_leaf : Step → Bool
makes_leaf step.Label = true
makes_leaf step.LabelName = true
makes_leaf step.LibraryWord = true
makes_leaf step.EntityWord = true
makes_leaf step.Converse = true
makes_leaf step.InstanceArchitecture = true
makes_leaf _ = false

-- it suits trees of these forms
abbrev pub suits_leaf : Step → List Form → Bool
suits_leaf s gs = not (makes_leaf s) || list_all (is_among leaves) gs

abbrev pub suits_condition : Step → List Form → Bool
suits_condition s gs = not (is_condition s) || (list_all (is_among (form.Absent ∷ expressions)) gs && is_among gs form.Condition)

abbrev pub suits : Step → List Form → Bool
suits s gs = suits_leaf s gs && suits_condition s gs

abbrev pub suit : List Step → Step → List Slot → Bool
suit steps rest [] = true
suit steps rest (One gs ∷ ss) = suits (first_step steps rest) gs && suit (steps_behind steps) rest ss
suit steps rest (Many gs ∷ ss) = list_all (λ s. suits s gs) steps && suits rest gs

-- none of them wants a condition
abbrev pub wants_none : List Step → Step → Bool
wants_none steps rest = list_all (λ s. not (is_condition s)) steps && not (is_condition rest)

or_true : (b : Bool) → (b || true) ≡ true
or_true true = refl
or_true false = refl

-- ---- all rows

pub rows_suit : (r : Revision) (f : Form) → suit (row_of f).steps (row_of f).rest (slots_of r f) ≡ true
rows_suit V2019 form.Absent = refl
rows_suit V1993 form.Absent = refl
rows_suit V2019 _ = refl
rows_suit V1993 _ = refl

-- where a form keeps brackets round its parts, it has no condition
pub no_condition_in_brackets : (f : Form) (parts : Forest Form) → (not (keeps_brackets f parts) || wants_none (row_of f).steps (row_of f).rest) ≡ true
no_condition_in_brackets form.Aggregate parts = or_true (not (keeps_brackets form.Aggregate parts))
no_condition_in_brackets form.Qualification parts = or_true (not (keeps_brackets form.Qualification parts))
no_condition_in_brackets _ parts = refl

-- ---- the steps behind the first tree

pub wants_none_behind : (steps : List Step) (rest : Step) → wants_none steps rest ≡ true → wants_none (steps_behind steps) rest ≡ true
wants_none_behind [] rest h = h
wants_none_behind (s ∷ steps) rest h =
    let a = and_parts (not (is_condition s) && list_all (λ s. not (is_condition s)) steps) (not (is_condition rest)) h in
    and_from (list_all (λ s. not (is_condition s)) steps) (not (is_condition rest)) (and_parts (not (is_condition s)) (list_all (λ s. not (is_condition s)) steps) a.0).1 a.1

pub wants_none_first : (steps : List Step) (rest : Step) → wants_none steps rest ≡ true → not (is_condition (first_step steps rest)) ≡ true
wants_none_first [] rest h = h
wants_none_first (s ∷ steps) rest h =
    let a = and_parts (not (is_condition s) && list_all (λ s. not (is_condition s)) steps) (not (is_condition rest)) h in
    (and_parts (not (is_condition s)) (list_all (λ s. not (is_condition s)) steps) a.0).0

-- The first tree stands in a slot that its step suits; and what is left suits the slots that are left.
pub record IsFirst (steps : List Step) (rest : Step) (ss : List Slot) (f : Form) (fs : List Form) : Type 0 where
  pub forms : List Form
  pub among : is_among forms f ≡ true
  pub first_suits : suits (first_step steps rest) forms ≡ true
  pub left : List Slot
  pub left_suit : suit (steps_behind steps) rest left ≡ true
  pub left_fit : fits left fs ≡ true
  -- and so it does with another form that may stand there
  pub other_fits : (g : Form) (gs : List Form) → is_among forms g ≡ true → fits left gs ≡ true → fits ss (g ∷ gs) ≡ true

pub first_in : (steps : List Step) (rest : Step) (ss : List Slot) (f : Form) (fs : List Form) → suit steps rest ss ≡ true → fits ss (f ∷ fs) ≡ true
    → IsFirst steps rest ss f fs
first_in steps rest [] f fs s h = absurd (false≢true h)
first_in steps rest (One gs ∷ ss) f fs s h =
    let a = and_parts (is_among gs f) (fits ss fs) h in
    let b = and_parts (suits (first_step steps rest) gs) (suit (steps_behind steps) rest ss) s in
    record {
      forms = gs;
      among = a.0;
      first_suits = b.0;
      left = ss;
      left_suit = b.1;
      left_fit = a.1;
      other_fits = λ g hs x y. and_from (is_among gs g) (fits ss hs) x y;
    }
first_in steps rest (Many gs ∷ ss) f fs s h =
    let a = and_parts (is_among gs f) (fits (Many gs ∷ ss) fs) h in
    let b = and_parts (list_all (λ s. suits s gs) steps) (suits rest gs) s in
    record {
      forms = gs;
      among = a.0;
      first_suits = first_of steps b.0 b.1;
      left = Many gs ∷ ss;
      left_suit = and_from (list_all (λ s. suits s gs) (steps_behind steps)) (suits rest gs) (behind_of steps b.0) b.1;
      left_fit = a.1;
      other_fits = λ g hs x y. and_from (is_among gs g) (fits (Many gs ∷ ss) hs) x y;
    }
  where
    first_of : (steps : List Step) → list_all (λ s. suits s gs) steps ≡ true → suits rest gs ≡ true → suits (first_step steps rest) gs ≡ true
    first_of [] x y = y
    first_of (s ∷ steps) x y = (and_parts (suits s gs) (list_all (λ s. suits s gs) steps) x).0

    behind_of : (steps : List Step) → list_all (λ s. suits s gs) steps ≡ true → list_all (λ s. suits s gs) (steps_behind steps) ≡ true
    behind_of [] x = x
    behind_of (s ∷ steps) x = (and_parts (suits s gs) (list_all (λ s. suits s gs) steps) x).1
