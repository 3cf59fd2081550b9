-- Syntax trees that a script writes, and what a unit of `work` declares.
use Rattle.std.specs.Prelude.{ℕ, ◌==◌, Bool, false, ◌&&◌, List, [], ◌∷◌, map, Option, Some, None, if◌then◌else◌}
use Rattle.std.specs.List.{filter}
use Rattle.std.specs.Str.{bytes_eq}
use Rattle.vd_bytes.specs.declared.places.Place.{Place}
use Rattle.vd_forest.specs.Forest.{Forest, nothing, more, with_next}
use Rattle.vd_forms.specs.declared.form.Form.{Form}
use Rattle.vd_predefined.specs.declared.numbers.TheConstants.{REGION_OF_WORK}
use Rattle.vd_regions.specs.declared.entries.Entered.{Entered}
use Rattle.vd_trees.specs.declared.revision.Revision.TheVariants.{V2019}
use Rattle.vd_naming.specs.Naming.{names_of}

-- ---- trees

abbrev pub side_by_side : List (Forest Form) → Forest Form
side_by_side [] = nothing
side_by_side (tree ∷ trees) = with_next tree (side_by_side trees)

-- in the first file
abbrev pub at_place : (line column : ℕ) → Place
at_place line column = record { file = 0; line = line; column = column }

abbrev pub node : Form → (line column : ℕ) → List (Forest Form) → Forest Form
node f line column parts = more f [] (at_place line column) (side_by_side parts) nothing

abbrev pub leaf : Form → (line column : ℕ) → List ℕ → Forest Form
leaf f line column text = more f text (at_place line column) nothing nothing

-- ---- what stands in the region of a unit of `work`

abbrev pub is_in : Option ℕ → Entered → Bool
is_in None e = false
is_in (Some region) e = e.region == region

abbrev pub region_of : List ℕ → List Entered → Option ℕ
region_of name [] = None
region_of name (e ∷ es) = if (e.region == REGION_OF_WORK) && bytes_eq e.declaration.name name then e.declaration.inside else region_of name es

abbrev pub in_unit : List ℕ → List Entered → List Entered
in_unit name es = filter (is_in (region_of name es)) es

abbrev pub declared_by : Forest Form → List ℕ → List Entered
declared_by units name = in_unit name (names_of V2019 units).design.scopes.entered

abbrev pub names_in : List Entered → List (List ℕ)
names_in es = map (λ e. e.declaration.name) es

abbrev pub marks_in : List Entered → List (Option ℕ)
marks_in es = map (λ e. e.declaration.mark) es
