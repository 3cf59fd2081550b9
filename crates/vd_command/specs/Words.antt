-- What words ask for.
use Rattle.std.specs.Prelude.{◌≡◌, ℕ, Bool, true, false, List, [], Option, Some, None}
use Rattle.vd_words.specs.declared.command.Mode.{Mode}
use Rattle.vd_words.specs.declared.command.Mode.TheVariants.{Convert, Check}
use Rattle.vd_words.specs.Commands.{Meaning, meaning_of}
pub use Rattle.vd_words.specs.Words.{texts_of}
use Rattle.vd_command.specs.declared.action.Action.{Action}
use Rattle.vd_command.specs.declared.action.Action.TheVariants as actions

-- Words that aren't taken; converting FILEs, and checking them, under a tool type. The program has no other mode yet.
pub data Job : Type 0 where
  refusing : Job
  converting : (tool : List ℕ) → (files : List (List ℕ)) → Job
  checking : (tool : List ℕ) → (files : List (List ℕ)) → Job

abbrev pub job_in : Mode → List ℕ → List (List ℕ) → Job
job_in Convert tool files = converting tool files
job_in Check tool files = checking tool files
job_in _ tool files = refusing

abbrev pub job_of_meaning : Meaning → Job
job_of_meaning m = job_in m.mode m.tool_type m.files

abbrev pub job_of_command : Option Meaning → Job
job_of_command None = refusing
job_of_command (Some m) = job_of_meaning m

-- what some words ask for
unfoldable pub job_of : List (List ℕ) → Job
job_of words = job_of_command (meaning_of words)

-- its FILEs
abbrev pub files_of : Job → List (List ℕ)
files_of refusing = []
files_of (converting tool files) = files
files_of (checking tool files) = files

-- whether it writes Design and Map where it is done
abbrev pub writes : Job → Bool
writes refusing = false
writes (converting tool files) = true
writes (checking tool files) = false

-- what is to be done for a job
abbrev pub IsActionFor : Action → Job → Type 0
IsActionFor actions.RefuseWords job = job ≡ refusing
IsActionFor (actions.Convert tool files) job = job ≡ converting tool files
IsActionFor (actions.Check tool files) job = job ≡ checking tool files
