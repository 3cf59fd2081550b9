-- Loops, and the statements that leave them or go on to their next turn. (IEEE 1076, loop statements; next statements; exit statements)
use Rattle.std.specs.Prelude.{ℕ, Bool, true, false, ◌&&◌, ◌==◌, List, [], ◌∷◌, Option, Some, None, if◌then◌else◌}
use Rattle.vd_bytes.specs.declared.places.Place.{Place}
use Rattle.vd_bytes.specs.declared.answers.Refused.{Refused}
use Rattle.vd_forest.specs.Forest.{Forest, nothing, more, place_of, skipped}
use Rattle.vd_forms.specs.declared.form.Form.{Form}
use Rattle.vd_forms.specs.declared.form.Form.TheVariants as form
use Rattle.vd_walks.specs.Finding.{Finder}
use Rattle.vd_walks.specs.Gathering.{all_found}
use Rattle.vd_walks.specs.Least.{is_before}
use Rattle.vd_resolved.specs.declared.node.Resolved.{Resolved}
use Rattle.vd_structure_rules.specs.declared.loops.EnclosingLoop.{EnclosingLoop}
use Rattle.vd_structure_rules.specs.declared.loops.LabelledLoop.{LabelledLoop}
use Rattle.vd_structure_rules.specs.Statements.{refused_if}

-- where the label may stand again behind a loop, and so what all of the loop stands in front of
abbrev pub closing_label_part : Form → Option ℕ
closing_label_part form.ForLoop = Some 3
closing_label_part form.WhileLoop = Some 2
closing_label_part form.LoopStatement = Some 1
closing_label_part _ = None

-- `while` and plain loops, which no range ends
abbrev pub is_endless : Form → Bool
is_endless form.WhileLoop = true
is_endless form.LoopStatement = true
is_endless _ = false

-- ---- the innermost loop

abbrev pub loop_at : Option ℕ → Form → Place → Option EnclosingLoop → Option EnclosingLoop
loop_at None f place around = around
loop_at (Some n) f place around = Some (record { place = place; endless = is_endless f })

-- that of what stands inside a node: the node itself where it is a loop, none in a process or function, else the one around it
abbrev pub innermost_in : Form → Place → Option EnclosingLoop → Option EnclosingLoop
innermost_in form.ProcessStatement place around = None
innermost_in form.FunctionBody place around = None
innermost_in f place around = loop_at (closing_label_part f) f place around

-- ---- loops with labels: the label's declaration, the places of the label and behind the loop

abbrev pub number_at : Forest Resolved → Option ℕ
number_at nothing = None
number_at (more n text place parts next) = n.declaration

abbrev pub labelled_until : Option ℕ → Place → Form → Option Place → Option LabelledLoop
labelled_until (Some label) place f (Some until) = Some (record { label = label; place = place; until = until; endless = is_endless f })
labelled_until _ place f _ = None

abbrev pub place_at : Option ℕ → Forest Resolved → Option Place
place_at None parts = None
place_at (Some n) parts = place_of (skipped n parts)

abbrev pub labelled_loop : Option ℕ → Place → Forest Resolved → Option LabelledLoop
labelled_loop label place nothing = None
labelled_loop label place (more n text inner parts next) = labelled_until label place n.form (place_at (closing_label_part n.form) parts)

abbrev pub loop_of_node : Form → Place → Forest Resolved → Option LabelledLoop
loop_of_node form.LabelledStatement place parts = labelled_loop (number_at parts) place (skipped 1 parts)
loop_of_node _ place parts = None

abbrev pub loop_finder : Finder Resolved ℕ LabelledLoop
loop_finder = record {
  answer = λ s n text place parts. loop_of_node n.form place parts;
  down = λ s n text place parts. s;
  along = λ s n text place parts. s;
}

-- all loops with labels, in the order of the text
abbrev pub labelled_loops : Forest Resolved → List LabelledLoop
labelled_loops units = all_found loop_finder 0 units

-- the loop of a label
abbrev pub loop_of : List LabelledLoop → ℕ → Option LabelledLoop
loop_of [] label = None
loop_of (l ∷ ls) label = if label == l.label then Some l else loop_of ls label

-- the place is inside the loop
abbrev pub stands_round : LabelledLoop → Place → Bool
stands_round l place = is_before l.place place && is_before place l.until

-- ---- 408: `next` or `exit` outside a loop, or outside the loop of its label; a `next` of a `while` or plain loop, at the loop

abbrev pub jump_of : Bool → Bool → Place → Option Refused
jump_of is_next endless loop = refused_if (is_next && endless) loop 408

abbrev pub jump_out_of : Bool → Option EnclosingLoop → Place → Option Refused
jump_out_of is_next None place = Some (record { place = place; rule = 408 })
jump_out_of is_next (Some l) place = jump_of is_next l.endless l.place

-- with a label; the statement's own first token tells whether it is inside
abbrev pub jump_to : Bool → Option LabelledLoop → Place → Place → Option Refused
jump_to is_next None place own = Some (record { place = place; rule = 408 })
jump_to is_next (Some l) place own =
    if stands_round l own then jump_of is_next l.endless l.place else Some (record { place = place; rule = 408 })

abbrev pub jump_to_label : Bool → (ℕ → Option LabelledLoop) → Option ℕ → Place → Place → Option Refused
jump_to_label is_next loops None place own = Some (record { place = place; rule = 408 })
jump_to_label is_next loops (Some label) place own = jump_to is_next (loops label) place own

-- without a label what is meant is the innermost loop
abbrev pub jump_by : Form → Bool → (ℕ → Option LabelledLoop) → Option EnclosingLoop → Option ℕ → Place → Place → Option Refused
jump_by form.Absent is_next loops innermost label place own = jump_out_of is_next innermost place
jump_by _ is_next loops innermost label place own = jump_to_label is_next loops label place own

abbrev pub jump : Bool → (ℕ → Option LabelledLoop) → Option EnclosingLoop → Place → Place → Forest Resolved → Option Refused
jump is_next loops innermost place own nothing = None
jump is_next loops innermost place own (more n text at parts next) = jump_by n.form is_next loops innermost n.declaration place own

abbrev pub wrong_jump : (ℕ → Option LabelledLoop) → Option EnclosingLoop → Form → Place → Place → Forest Resolved → Option Refused
wrong_jump loops innermost form.NextStatement place own parts = jump true loops innermost place own parts
wrong_jump loops innermost form.ExitStatement place own parts = jump false loops innermost place own parts
wrong_jump loops innermost _ place own parts = None
