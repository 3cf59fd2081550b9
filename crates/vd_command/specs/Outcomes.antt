-- What is due for some words and files: a status, and the bytes of each channel.
use Rattle.std.specs.Prelude.{◌≡◌, ◌⊎◌, ℕ, List, [], ◌∷◌, length}
use Rattle.vd_trees.specs.declared.rows.Row.{Row}
use Rattle.vd_first_lex.specs.Lexings.{plain_of}
use Rattle.vd_first_names.specs.Maps.{map_text_of}
use Rattle.vd_first_lower.specs.Conversions.{converted, IsConversion}
use Rattle.vd_modes.specs.Dues.{conversion_line, SaysConversion as SaysWholeConversion, MayBeConverted}
use Rattle.vd_program.specs.Dues.{Due, refused_words}
use Rattle.vd_program.specs.Outcomes.{contents_of, IsFilesOutcome}
use Rattle.vd_modes.specs.Checks.{SaysCheck}
use Rattle.vd_command.specs.Words.{Job, refusing, converting, checking, job_of, files_of}

-- ---- the first language: one file, whose text is small enough for all that is proved of its conversion

abbrev pub conversion : List ℕ → List Row → ℕ → Due
conversion design rows units =
    record {
      status = 0;
      design = design;
      map = map_text_of rows;
      console = conversion_line units (length rows);
    }

-- There is one file, a text of the first language in which nothing is refused, and this is due for what is written of it.
pub record IsFirst (contents : List (List ℕ)) (due : Due) : Type 0 where
  pub content : List ℕ
  pub alone : contents ≡ content ∷ []
  pub design : List ℕ
  pub rows : List Row
  pub units : ℕ
  pub is : IsConversion (plain_of 0 content) (converted design rows units)
  pub due_is : due ≡ conversion design rows units

abbrev pub IsNotFirst : List (List ℕ) → Type 0
IsNotFirst contents = (due : Due) → IsFirst contents due → ⊥

-- ---- what the modes say

-- What `convert` says of files of these names with these contents: of a text of the first language what is proved of it alone, and of all others what is said of the whole
-- profile. The first argument is the tool type
pub data SaysConversion (tool : List ℕ) (names contents : List (List ℕ)) (due : Due) : Type 0 where
  first : IsFirst contents due → SaysConversion tool names contents due
  other : IsNotFirst contents → SaysWholeConversion tool names contents due → SaysConversion tool names contents due

-- what a job says of its files. Words that aren't taken have none
abbrev pub Says : Job → List (List ℕ) → List (List ℕ) → Due → Type 0
Says refusing names contents due = due ≡ refused_words
Says (converting tool files) names contents due = SaysConversion tool names contents due
Says (checking tool files) names contents due = SaysCheck tool names contents due

-- The outcome of a job: there are too many FILEs, or too many bytes in them, or what the job says of them
abbrev pub IsJobOutcome : Job → List (List ℕ × List ℕ) → Due → Type 0
IsJobOutcome job files due = IsFilesOutcome (Says job) (files_of job) (contents_of files (files_of job)) due

abbrev pub IsOutcome : List (List ℕ) → List (List ℕ × List ℕ) → Due → Type 0
IsOutcome words files due = IsJobOutcome (job_of words) files due

-- ---- how much words and files determine

-- Two outcomes of a job are one; but where files are to be converted that break no rule of revision 2019 and aren't a text of the first language, it is open what is
-- written, and whether it is refused as what can't be shown yet.
abbrev pub AreOne : Job → List (List ℕ) → Due → Due → Type 0
AreOne refusing contents a b = a ≡ b
AreOne (converting tool files) contents a b = (a ≡ b) ⊎ (IsNotFirst contents × MayBeConverted tool contents)
AreOne (checking tool files) contents a b = a ≡ b

abbrev pub AreOneFor : List (List ℕ) → List (List ℕ × List ℕ) → Due → Due → Type 0
AreOneFor words files a b = AreOne (job_of words) (contents_of files (files_of (job_of words))) a b

-- words and files have at most one outcome
abbrev pub HasOneOutcome : Type 0
HasOneOutcome = (words : List (List ℕ)) (files : List (List ℕ × List ℕ)) (a b : Due) → IsOutcome words files a → IsOutcome words files b → AreOneFor words files a b

-- and they have one
abbrev pub HasSomeOutcome : Type 0
HasSomeOutcome = (words : List (List ℕ)) (files : List (List ℕ × List ℕ)) → (due : Due) × IsOutcome words files due
