-- Selected assignments among sequential statements as `case` statements. (IEEE 1076, selected signal assignments; selected variable assignments; case
-- statement.)
use Rattle.std.specs.Prelude.{ℕ, Bool, true, false, if◌then◌else◌, List, [], Option, Some, None}
use Rattle.vd_bytes.specs.declared.places.Place.{Place}
use Rattle.vd_forest.specs.Forest.{Forest, nothing, more, next_of, with_next}
use Rattle.vd_forms.specs.declared.form.Form.{Form}
use Rattle.vd_forms.specs.declared.form.Form.TheVariants as form
use Rattle.vd_notes.specs.Makers.{absent, noted, resolved}
use Rattle.vd_notes.specs.declared.noted.Noted.{Noted}
use Rattle.vd_rewriting.specs.Inheriting.{Rules}
use Rattle.vd_lowering.specs.Assignments.{bare, branch, values_in}
use Rattle.vd_lowering.specs.declared.assignments.Taking.{Taking}
use Rattle.vd_lowering.specs.declared.assignments.Taking.TheVariants as takes

-- ---- which statements

-- what holds sequential statements. The same assignment stands among concurrent statements too, where it stays
abbrev pub is_sequence : Form → Bool
is_sequence form.Statements = true
is_sequence form.ElseBranch = true
is_sequence form.LabelledStatement = true
is_sequence _ = false

abbrev pub selecting : Form → Option Taking
selecting form.SelectedSignalAssignment = Some takes.Signal
selecting form.SelectedVariableAssignment = Some takes.Variable
selecting _ = None

-- the statement that assigns one of the values
abbrev pub plain_form : Taking → Form
plain_form takes.Signal = form.SignalAssignment
plain_form takes.Variable = form.VariableAssignment
plain_form takes.Return = form.ReturnStatement

-- ---- what they become

module _ (to : Taking) (statement : Noted) (place : Place) (parts : Forest Noted) where
  -- the alternative of a value and its choices
  abbrev pub alternative : Place → Forest Noted → Forest Noted → Forest Noted
  alternative spot values next = more (bare form.CaseAlternative) [] spot (branch to statement place parts values nothing) next

  abbrev pub alternatives : Forest Noted → Forest Noted
  alternatives nothing = nothing
  alternatives (more n text spot values next) = alternative spot values (alternatives next)

-- how it is to be written is noted at the statement, and stays so
abbrev pub case_node : Noted → Noted
case_node n = record { node = resolved form.CaseStatement None None 0; note = n.note }

-- the target and what is behind it, as the parts of one of the assignments: the selector and the word `?`, or what stands for it, are in front
abbrev pub assigning : Forest Noted → Forest Noted
assigning new = next_of (next_of new)

abbrev pub all_alternatives : Taking → Place → Forest Noted → Forest Noted
all_alternatives to place parts = alternatives to (bare (plain_form to)) place parts (values_in to parts)

-- the alternatives, the word again, and no name
abbrev pub case_end : Taking → Place → Forest Noted → Forest Noted
case_end to place new =
    more (bare form.CaseAlternatives) [] place (all_alternatives to place (assigning new)) (with_next (next_of new) (absent noted place nothing))

abbrev pub case_parts : Taking → Place → Forest Noted → Forest Noted
case_parts to place new = with_next (next_of new) (with_next new (case_end to place new))

-- ---- the pass

abbrev pub selected : Option Taking → Noted → List ℕ → Place → Forest Noted → Forest Noted → Forest Noted
selected None n text place new next = more n text place new next
selected (Some to) n text place new next = more (case_node n) [] place (case_parts to place new) next

abbrev pub selected_in : Bool → Noted → List ℕ → Place → Forest Noted → Forest Noted → Forest Noted
selected_in is_inside n text place new next = if is_inside then selected (selecting n.node.form) n text place new next else more n text place new next

-- the state: whether a node is one of a list of sequential statements
abbrev pub selections : Rules Noted Noted Bool
selections = record {
  down = λ is_inside n text place parts. is_sequence n.node.form;
  along = λ is_inside n text place parts. is_inside;
  pass = λ is_inside n text place parts new next. selected_in is_inside n text place new next;
}
