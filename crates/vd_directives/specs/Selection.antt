-- The selected text of a file. (IEEE 1076-2019, conditional analysis tool directives.)
use Rattle.std.specs.Prelude.{◌≡◌, ℕ, ◌+◌, Bool, not, ◌&&◌, ◌==◌, List, [], ◌∷◌, Result, Ok, Err, if◌then◌else◌}
use Rattle.vd_bytes.specs.declared.answers.Refused.{Refused}
use Rattle.vd_bytes.specs.declared.answers.Refusal.{Refusal}
use Rattle.vd_bytes.specs.declared.answers.Refusal.TheVariants as refusals
use Rattle.vd_directives.specs.declared.kinds.Kind.{Kind}
use Rattle.vd_directives.specs.declared.kinds.Kind.TheVariants.{Plain, Warning}
use Rattle.vd_directives.specs.declared.selected.Selected.{Selected}
use Rattle.vd_directives.specs.Directives.{blank_length, kind_of}
use Rattle.vd_directives.specs.Groups.{is_selected, is_open, own_rule}
use Rattle.vd_directives.specs.Lines.{lines_of, place_at}
use Rattle.vd_directives.specs.Stacks.{is_nil}

-- what a file is answered: its selected text, or the first break
abbrev pub Answer : Type 0
Answer = Result Selected Refused

-- A group without end breaks 112 on the file's last line. There it goes before what that line breaks itself, unless that is 111.
abbrev pub goes_before : Bool → ℕ → Bool
goes_before unclosed own = unclosed && not (own == 111)

abbrev pub rule_of : Bool → ℕ → ℕ
rule_of unclosed own = if goes_before unclosed own then 112 else own

-- the column of the backquote, or 1 for a group without end
abbrev pub column_of : Bool → ℕ → List ℕ → ℕ
column_of unclosed own line = if goes_before unclosed own then 1 else blank_length line + 1

-- a line in front of what is selected behind it
abbrev pub with_line : ℕ → List ℕ → Answer → Answer
with_line number line (Err refused) = Err refused
with_line number line (Ok s) = Ok (record s { lines = record { number = number; bytes = line } ∷ s.lines })

abbrev pub with_warning : ℕ → List ℕ → Answer → Answer
with_warning number text (Err refused) = Err refused
with_warning number text (Ok s) = Ok (record s { warnings = record { number = number; bytes = text } ∷ s.warnings })

-- of the selected lines those are read that are no directives, and the warnings are given
abbrev pub with_kind : ℕ → List ℕ → Kind → Answer → Answer
with_kind number line Plain answer = with_line number line answer
with_kind number line (Warning text) answer = with_warning number text answer
with_kind number line kind answer = answer

abbrev pub line_answer : ℕ → ℕ → List ℕ → Kind → Bool → Bool → ℕ → Answer → Answer
line_answer file number line kind selected unclosed own answer =
    if rule_of unclosed own == 0 then (if selected then with_kind number line kind answer else answer)
    else Err (record { place = place_at file number (column_of unclosed own line); rule = rule_of unclosed own })

-- the answer for some lines, of which the first has a number, behind lines of these kinds, the nearest first
abbrev pub answer_from : List ℕ → ℕ → ℕ → List Kind → List (List ℕ) → Answer
answer_from tool file number before [] = Ok (record { file = file; lines = []; warnings = [] })
answer_from tool file number before (line ∷ lines) =
    line_answer file number line (kind_of tool line) (is_selected before) (is_nil lines && is_open (kind_of tool line ∷ before))
    (own_rule before (kind_of tool line)) (answer_from tool file (number + 1) (kind_of tool line ∷ before) lines)

-- the answer for a file
abbrev pub selection : List ℕ → ℕ → List ℕ → Answer
selection tool file bytes = answer_from tool file 1 [] (lines_of bytes)

-- the call gives that answer, or memory ran out
abbrev pub IsAnswer : Answer → Result Selected Refusal → Type 0
IsAnswer answer (Ok s) = answer ≡ Ok s
IsAnswer answer (Err (refusals.Refused refused)) = answer ≡ Err refused
IsAnswer answer (Err refusals.Memory) = Unit {0}
