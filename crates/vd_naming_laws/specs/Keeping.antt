-- How the syntax of a resolved tree stands to the tree that is resolved: it is the same, but that in revision 2019 an operator `??` may be
-- implied over a condition. (IEEE 1076-2019, overload resolution; the condition operator)
use Rattle.std.specs.Prelude.{◌≡◌, ◌⊎◌, ℕ, Bool, true, false, List, [], ◌∷◌}
use Rattle.vd_bytes.specs.declared.places.Place.{Place}
use Rattle.vd_forest.specs.Forest.{Forest, nothing, more}
use Rattle.vd_forms.specs.declared.form.Form.{Form}
use Rattle.vd_forms.specs.declared.form.Form.TheVariants as form
use Rattle.vd_forms.specs.Forms.{is_among, expressions}
use Rattle.vd_trees.specs.declared.revision.Revision.{Revision}
use Rattle.vd_trees.specs.declared.revision.Revision.TheVariants.{V2019}
use Rattle.vd_name_rows.specs.Rows.{row_of}
use Rattle.vd_name_rows.specs.declared.steps.Want.TheVariants as want
use Rattle.vd_name_rows.specs.declared.steps.Step.{Step}
use Rattle.vd_name_rows.specs.declared.steps.Step.TheVariants as step
use Rattle.vd_naming.specs.Naming.{steps_behind}

-- the step of the tree in front, where these are left
abbrev pub first_step : List Step → Step → Step
first_step [] rest = rest
first_step (s ∷ steps) rest = s

-- its tree stands where the language has a condition
abbrev pub is_condition : Step → Bool
is_condition (step.Expression want.Condition) = true
is_condition _ = false

-- A condition, which is an expression, stands under an operator that isn't written, at the place of its first token.
pub record IsImplied (r : Revision) (s : Step) (f : Form) (text : List ℕ) (place : Place) (parts made : Forest Form) : Type 0 where
  pub revision : r ≡ V2019
  pub condition : is_condition s ≡ true
  pub expression : is_among expressions f ≡ true
  pub under : made ≡ more form.Condition [] place (more f text place parts nothing) nothing

-- a node as it was
pub record IsSameNode (f : Form) (text : List ℕ) (place : Place) (g : Form) (text' : List ℕ) (place' : Place) : Type 0 where
  pub same_form : g ≡ f
  pub same_text : text' ≡ text
  pub same_place : place' ≡ place

-- Trees with these steps, and others that are made of them: one for each, in order. Each is the same with its parts kept in turn, or an operator is implied
-- over it.
abbrev pub Keeps : Revision → List Step → Step → Forest Form → Forest Form → Type 0
Keeps r steps rest nothing nothing = Unit {0}
Keeps r steps rest (more f text place parts next) (more g text' place' parts' next') =
    (IsSameNode f text place g text' place' × Keeps r (row_of f).steps (row_of f).rest parts parts'
    ⊎ IsImplied r (first_step steps rest) f text place parts (more g text' place' parts' nothing))
    × Keeps r (steps_behind steps) rest next next'
Keeps r steps rest nothing (more g text' place' parts' next') = ⊥
Keeps r steps rest (more f text place parts next) nothing = ⊥
