-- Statements: which waits and returns they have, and what stands around one. (IEEE 1076, process statements; wait statements; loop
-- statements; subprogram bodies)
use Rattle.std.specs.Prelude.{ℕ, Bool, true, false, not, ◌&&◌, ◌||◌, Option, Some, None}
use Rattle.vd_bytes.specs.declared.places.Place.{Place}
use Rattle.vd_bytes.specs.declared.answers.Refused.{Refused}
use Rattle.vd_forest.specs.Forest.{Forest, nothing, more, parts_of, skipped}
use Rattle.vd_forms.specs.declared.form.Form.{Form}
use Rattle.vd_forms.specs.declared.form.Form.TheVariants as form
use Rattle.vd_resolved.specs.declared.node.Resolved.{Resolved}
use Rattle.vd_structure_rules.specs.declared.around.Body.{Body}
use Rattle.vd_structure_rules.specs.declared.around.Body.TheVariants as body

abbrev pub refused_if : Bool → Place → ℕ → Option Refused
refused_if true place rule = Some (record { place = place; rule = rule })
refused_if false place rule = None

-- ---- forms of first trees

abbrev pub is_wait : Form → Bool
is_wait form.WaitStatement = true
is_wait _ = false

abbrev pub is_absent : Form → Bool
is_absent form.Absent = true
is_absent _ = false

-- the first tree is a wait
abbrev pub begins_with_wait : Forest Resolved → Bool
begins_with_wait nothing = false
begins_with_wait (more n text place parts next) = is_wait n.form

-- the first tree is there, and stands for something that isn't
abbrev pub begins_with_absent : Forest Resolved → Bool
begins_with_absent nothing = false
begins_with_absent (more n text place parts next) = is_absent n.form

-- a statement is a wait, perhaps behind a label
abbrev pub is_wait_statement : Form → Forest Resolved → Bool
is_wait_statement form.LabelledStatement parts = begins_with_wait (skipped 1 parts)
is_wait_statement f parts = is_wait f

-- one of the statements of a list is a wait. What stands inside them doesn't count
abbrev pub has_wait : Forest Resolved → Bool
has_wait nothing = false
has_wait (more n text place parts next) = is_wait_statement n.form parts || has_wait next

-- ---- bodies

-- what stands inside a node is in its body, unless it has none of its own
abbrev pub body_of_process : Bool → Body
body_of_process true = body.Process
body_of_process false = body.ListedProcess

abbrev pub body_in : Form → Forest Resolved → Body → Body
body_in form.ProcessStatement parts around = body_of_process (begins_with_absent parts)
body_in form.FunctionBody parts around = body.Function
body_in _ parts around = around

abbrev pub is_listed : Body → Bool
is_listed body.ListedProcess = true
is_listed _ = false

abbrev pub is_in_function : Body → Bool
is_in_function body.Function = true
is_in_function _ = false

-- ---- labels

-- A statement with a label is refused there.
abbrev pub label_in : Form → Place → Option Place
label_in form.LabelledStatement place = Some place
label_in form.LabelledConcurrent place = Some place
label_in _ place = None

abbrev pub statement_place : Option Place → Place → Place
statement_place None place = place
statement_place (Some label) place = label

-- ---- 407: a `wait` in a process with a list or `all`; a process without list in whose list of statements none is a `wait`

abbrev pub wait_in_listed : Body → Form → Place → Option Refused
wait_in_listed b f place = refused_if (is_listed b && is_wait f) place 407

abbrev pub process_without_wait : Form → Place → Forest Resolved → Option Refused
process_without_wait form.ProcessStatement place parts =
    refused_if (begins_with_absent parts && not (has_wait (parts_of (skipped 3 parts)))) place 407
process_without_wait _ place parts = None

-- ---- 408: a `while` or plain loop in whose list of statements none is a `wait`; a `return` outside a function

abbrev pub loop_without_wait : Form → Place → Forest Resolved → Option Refused
loop_without_wait form.WhileLoop place parts = refused_if (not (has_wait (parts_of (skipped 1 parts)))) place 408
loop_without_wait form.LoopStatement place parts = refused_if (not (has_wait (parts_of parts))) place 408
loop_without_wait _ place parts = None

abbrev pub return_outside : Body → Form → Place → Option Refused
return_outside b form.ReturnStatement place = refused_if (not (is_in_function b)) place 408
return_outside b _ place = None
