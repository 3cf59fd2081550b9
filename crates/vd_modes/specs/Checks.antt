-- What the mode `check` says of files of revision 2019.
use Rattle.std.specs.Prelude.{◌≡◌, ◌≤◌, nat_lt, ℕ, suc, List, [], ◌∷◌, ◌++◌, length, slice_index_or, codes, Option, None, Some, if◌then◌else◌}
use Rattle.std.specs.Fmt.{decimal}
use Rattle.vd_bytes.specs.declared.answers.Limit.TheVariants as limits
use Rattle.vd_bytes.specs.declared.answers.Refused.{Refused}
use Rattle.vd_design_files.specs.Files.{Answer, refused, beyond, holds, IsAnswer}
use Rattle.vd_directives.specs.declared.selected.Line.{Line}
use Rattle.vd_forest.specs.Forest.{Forest, tree_count}
use Rattle.vd_forms.specs.declared.form.Form.{Form}
use Rattle.vd_program.specs.Dues.{Due, console_alone, limit_number, limit_passed, refusal}
use Rattle.vd_accepting.specs.Phases.{first_broken, IsAccepted}
use Rattle.vd_trees.specs.declared.revision.Revision.TheVariants.{V2019}

-- ---- lines

-- FILE:LINE:1: warning: TEXT
abbrev pub warning_line : List ℕ → Line → List ℕ
warning_line file w = file ++ (codes ":" ++ (decimal w.number ++ (codes ":1: warning: " ++ (w.bytes ++ 10 ∷ []))))

abbrev pub warning_lines : List ℕ → List Line → List ℕ
warning_lines file [] = []
warning_lines file (w ∷ ws) = warning_line file w ++ warning_lines file ws

-- the name of the file of that number
abbrev pub file_named : List (List ℕ) → ℕ → List ℕ
file_named names file = slice_index_or names file []

-- the warnings of the files from that number on, in order
abbrev pub warnings_from : List (List ℕ) → ℕ → List (List Line) → List ℕ
warnings_from names file [] = []
warnings_from names file (ws ∷ wss) = warning_lines (file_named names file) ws ++ warnings_from names (suc file) wss

-- accepted U units
abbrev pub accepted_line : ℕ → List ℕ
accepted_line units = codes "accepted " ++ (decimal units ++ (codes " units" ++ 10 ∷ []))

-- ---- answers

-- FILE:LINE:COLUMN: refused RULE, with the name of the file that the place is in
abbrev pub refusal_in : List (List ℕ) → Refused → Due
refusal_in names x = refusal (file_named names x.place.file) x

-- done, where the text of the console isn't too long
abbrev pub accepted : List ℕ → Due
accepted console = if nat_lt (limit_number limits.Output) (length console) then limit_passed limits.Output else console_alone 0 console

-- the units of all files are accepted, or else the first rule is named that they break
abbrev pub judgement : List (List ℕ) → List (List Line) → ℕ → Option Refused → Due
judgement names warnings units (Some x) = refusal_in names x
judgement names warnings units None = accepted (warnings_from names 0 warnings ++ accepted_line units)

abbrev pub due_of : List (List ℕ) → Answer → Due
due_of names (refused x) = refusal_in names x
due_of names (beyond limit) = limit_passed limit
due_of names (holds units warnings) = judgement names warnings (tree_count units) (first_broken V2019 units)

-- What is said of files of these names with these contents. The first argument is the tool type
abbrev pub SaysCheck : List ℕ → List (List ℕ) → List (List ℕ) → Due → Type 0
SaysCheck tool names contents due = (answer : Answer) × IsAnswer tool contents answer × (due ≡ due_of names answer)

-- ---- status 0

-- the text of the console where units are accepted
abbrev pub console_of : List (List ℕ) → Forest Form → List (List Line) → List ℕ
console_of names units warnings = warnings_from names 0 warnings ++ accepted_line (tree_count units)

-- Files that hold a design which breaks no rule, and the text of the console isn't too long
pub record MeetsRules (tool : List ℕ) (names contents : List (List ℕ)) : Type 0 where
  pub units : Forest Form
  pub warnings : List (List Line)
  pub read : IsAnswer tool contents (holds units warnings)
  pub meets : IsAccepted V2019 units
  pub short : length (console_of names units warnings) ≤ limit_number limits.Output
