-- What stands in functions, and which have bodies. (IEEE 1076, subprogram bodies; report and assertion statements; operator overloading)
use Rattle.std.specs.Prelude.{ℕ, Bool, true, false, not, ◌&&◌, ◌||◌, ◌==◌, List, Option, Some, None, bytes_eq, codes}
use Rattle.std.specs.List.{list_any}
use Rattle.vd_bytes.specs.declared.places.Place.{Place}
use Rattle.vd_bytes.specs.declared.answers.Refused.{Refused}
use Rattle.vd_trees.specs.declared.revision.Revision.{Revision}
use Rattle.vd_trees.specs.declared.revision.Revision.TheVariants.{V2019, V1993}
use Rattle.vd_forest.specs.Forest.{Forest, nothing, more, parts_of, skipped}
use Rattle.vd_forms.specs.declared.form.Form.{Form}
use Rattle.vd_forms.specs.declared.form.Form.TheVariants as form
use Rattle.vd_walks.specs.Finding.{Finder}
use Rattle.vd_walks.specs.Gathering.{all_found}
use Rattle.vd_resolved.specs.declared.node.Resolved.{Resolved}
use Rattle.vd_structure_rules.specs.declared.around.Body.{Body}
use Rattle.vd_structure_rules.specs.declared.functions.TheConstants.{FAILURE}
use Rattle.vd_structure_rules.specs.Statements.{refused_if, is_in_function}

-- ---- returns

abbrev pub is_return : Form → Bool
is_return form.ReturnStatement = true
is_return _ = false

-- a return stands among some statements or inside them
abbrev pub has_return : Forest Resolved → Bool
has_return nothing = false
has_return (more n text place parts next) = is_return n.form || (has_return parts || has_return next)

abbrev pub return_of : Form → Option ℕ
return_of form.ReturnStatement = Some 0
return_of _ = None

-- the first of them, as it is searched for
abbrev pub return_finder : Finder Resolved ℕ ℕ
return_finder = record {
  answer = λ s n text place parts. return_of n.form;
  down = λ s n text place parts. s;
  along = λ s n text place parts. s;
}

-- ---- severities

abbrev pub is_failure : Option ℕ → Bool
is_failure None = false
is_failure (Some k) = k == FAILURE

-- the declaration of the last of some pieces, behind one with this declaration
abbrev pub last_behind : Option ℕ → Forest Resolved → Option ℕ
last_behind last nothing = last
last_behind last (more n text place parts next) = last_behind n.declaration next

abbrev pub is_failure_name : Form → Forest Resolved → Bool
is_failure_name form.Name pieces = is_failure (last_behind None pieces)
is_failure_name _ pieces = false

-- the first tree is a name that means the literal `failure` of the package `standard`, alone or selected
abbrev pub names_failure : Forest Resolved → Bool
names_failure nothing = false
names_failure (more n text place parts next) = is_failure_name n.form parts

-- ---- bodies

-- the number of a function, which its node carries, or its designator
abbrev pub or_designator : Option ℕ → Forest Resolved → Option ℕ
or_designator (Some k) designator = Some k
or_designator None nothing = None
or_designator None (more n text place parts next) = n.declaration

abbrev pub body_of_node : Form → Option ℕ → Forest Resolved → Option ℕ
body_of_node form.FunctionBody number parts = or_designator number (skipped 1 parts)
body_of_node _ number parts = None

abbrev pub body_finder : Finder Resolved ℕ ℕ
body_finder = record {
  answer = λ s n text place parts. body_of_node n.form n.declaration parts;
  down = λ s n text place parts. s;
  along = λ s n text place parts. s;
}

-- the functions that have bodies, in the order of the text
abbrev pub bodies : Forest Resolved → List ℕ
bodies units = all_found body_finder 0 units

abbrev pub is_among : List ℕ → ℕ → Bool
is_among numbers k = list_any (λ n. k == n) numbers

-- ---- 409: in a function a `wait`, a signal assignment, a report or assertion without `severity failure`; a function without `return`,
-- or that is declared and has no body

abbrev pub suspends_or_drives : Form → Bool
suspends_or_drives form.WaitStatement = true
suspends_or_drives form.SignalAssignment = true
suspends_or_drives form.SelectedSignalAssignment = true
suspends_or_drives _ = false

abbrev pub in_function : Body → Form → Place → Option Refused
in_function b f place = refused_if (is_in_function b && suspends_or_drives f) place 409

abbrev pub goes_on : Form → Forest Resolved → Bool
goes_on form.ReportStatement parts = not (names_failure (skipped 1 parts))
goes_on form.AssertStatement parts = not (names_failure (skipped 2 parts))
goes_on _ parts = false

abbrev pub report_goes_on : Body → Form → Place → Forest Resolved → Option Refused
report_goes_on b f place parts = refused_if (is_in_function b && goes_on f parts) place 409

abbrev pub without_return : Form → Place → Forest Resolved → Option Refused
without_return form.FunctionBody place parts = refused_if (not (has_return (parts_of (skipped 7 parts)))) place 409
without_return _ place parts = None

abbrev pub has_no_body : (ℕ → Bool) → Option ℕ → Bool
has_no_body with_body None = true
has_no_body with_body (Some k) = not (with_body k)

abbrev pub without_body : (ℕ → Bool) → Form → Option ℕ → Place → Forest Resolved → Option Refused
without_body with_body form.FunctionDeclaration number place parts =
    refused_if (has_no_body with_body (or_designator number (skipped 1 parts))) place 409
without_body with_body _ number place parts = None

-- ---- 413, in revision 2019: a function "=", "/=" or "??"

abbrev pub is_function : Form → Bool
is_function form.FunctionDeclaration = true
is_function form.FunctionBody = true
is_function form.FunctionInstantiation = true
is_function form.GenericFunction = true
is_function _ = false

abbrev pub is_equality : Form → List ℕ → Bool
is_equality form.Quoted text = bytes_eq text (codes "=") || (bytes_eq text (codes "/=") || bytes_eq text (codes "??"))
is_equality _ text = false

abbrev pub begins_with_equality : Forest Resolved → Bool
begins_with_equality nothing = false
begins_with_equality (more n text place parts next) = is_equality n.form text

abbrev pub is_2019 : Revision → Bool
is_2019 V2019 = true
is_2019 V1993 = false

abbrev pub equality_function : Revision → Form → Place → Forest Resolved → Option Refused
equality_function r f place parts = refused_if (is_2019 r && (is_function f && begins_with_equality (skipped 1 parts))) place 413
