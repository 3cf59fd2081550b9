-- Designs are read back from their tokens.
use Rattle.std.specs.Prelude.{ℕ, ◌≡◌, true, List, [], ◌∷◌, map, None, IsTrue}
use Rattle.vd_trees.specs.declared.revision.Revision.TheVariants.{V1993}
use Rattle.vd_tokens.specs.Lexemes.{Lexeme}
use Rattle.vd_gram.specs.declared.tables.Table.{Table}
use Rattle.vd_gram.specs.Claims.{is_checked}
use Rattle.vd_gram.specs.Derivations.{Trees, IsDerivation, yield}
use Rattle.vd_forest.specs.Forest.{Forest, SameButPlaces, no_place}
use Rattle.vd_forms.specs.declared.form.Form.{Form}
use Rattle.vd_forms.specs.declared.form.Form.TheVariants as form
use Rattle.vd_forms.specs.Validity.{IsDesign}
use Rattle.vd_shapes.specs.declared.actions.Action.{Action}
use Rattle.vd_shapes.specs.Shapes.{shape}
use Rattle.vd_shapes.specs.Reading.{symbols_in}
use Rattle.vd_shapes.specs.Rows.{plain as plain_row}
use Rattle.vd_templates.specs.Templates.{tokens_of}
use Rattle.vd_derivations.specs.Rows.{Template, done, step, each, Standpoint}
use Rattle.vd_derivations.specs.Checks.{from, base, has, wants, symbols, left_by, all_stand, answers_at, wanted_at}

abbrev pub without_place : Lexeme → Lexeme
without_place t = record t { place = no_place }

-- the tokens are those of the units, wherever they stand
abbrev pub AreTokensOf : List Lexeme → Forest Form → Type 0
AreTokensOf tokens units = map without_place tokens ≡ tokens_of units

-- a derivation of the tokens of some units
pub record IsDerivationOf (t : Table) (units : Forest Form) (tree : Trees) : Type 0 where
  pub derived : IsDerivation t tree
  pub yields : yield tree ≡ symbols_in (tokens_of units)

-- they have one, and its shape is these units
pub record AreDerived (t : Table) (actions : List Action) (units : Forest Form) : Type 0 where
  pub tree : Trees
  pub derivation : IsDerivationOf t units tree
  pub shaped : SameButPlaces (shape actions (tokens_of units) tree) units

abbrev pub DesignsAreDerived : Table → List Action → Type 0
DesignsAreDerived t actions = (units : Forest Form) → IsDesign V1993 units → AreDerived t actions units

-- and each derivation of tokens like these has these units as its shape
abbrev pub HaveNoOtherShape : Table → List Action → Type 0
HaveNoOtherShape t actions =
    (units : Forest Form) (tokens : List Lexeme) (tree : Trees) → IsDesign V1993 units → AreTokensOf tokens units → IsDerivation t tree → yield tree ≡ symbols_in tokens
    → SameButPlaces (shape actions tokens tree) units

-- ---- for every table whose rows lead back

abbrev pub rows_of : Table → List (List ℕ)
rows_of t = map plain_row t.productions.now

-- what is computed of each row is what is wanted
pub record LeadBack (t : Table) (actions : List Action) (standpoints : List Standpoint) : Type 0 where
  pub rows : map (answers_at t (rows_of t) actions standpoints) standpoints ≡ map (wanted_at t (rows_of t) actions standpoints) standpoints

-- a file is its units, one behind the other
pub record FileRow : Type 0 where
  pub production : ℕ
  pub place : ℕ
  pub more : ℕ
  pub end : ℕ

abbrev pub file_template : FileRow → Template
file_template r = step r.production (each 0 r.place r.more [] r.end done) done

-- and each unit can stand at its place
pub record IsFileOf (t : Table) (actions : List Action) (standpoints : List Standpoint) (r : FileRow) : Type 0 where
  pub facts : has t (rows_of t) actions standpoints None (0 ∷ []) (file_template r) ≡ wants t (rows_of t) actions standpoints None (0 ∷ []) (file_template r)
  pub derives : symbols t (rows_of t) actions standpoints None (0 ∷ []) (file_template r) ≡ t.start ∷ []
  pub leaves : left_by t (rows_of t) actions standpoints (file_template r) base ≡ from 0 base
  pub stand : all_stand t (rows_of t) actions standpoints form.Absent true r.place (form.DesignUnit ∷ []) ≡ true

-- where the rows lead back, designs are read back from their tokens
abbrev pub DesignsLeadBack : Type 0
DesignsLeadBack =
    (t : Table) (actions : List Action) (standpoints : List Standpoint) (r : FileRow) → LeadBack t actions standpoints → IsFileOf t actions standpoints r → DesignsAreDerived t actions

abbrev pub DesignsAreAlone : Type 0
DesignsAreAlone = (t : Table) (actions : List Action) → IsTrue (is_checked t) → DesignsAreDerived t actions → HaveNoOtherShape t actions
