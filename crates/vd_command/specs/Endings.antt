-- What a call leaves, by what its words ask for.
use Rattle.std.specs.Prelude.{◌≡◌, ◌⊎◌, ℕ, List, Option}
use Rattle.vd_program.specs.Dues.{Due}
use Rattle.vd_program.specs.Outcomes.{IsDueOrReadFault, IsOutcomeOfFiles, IsReadFault, WritesFiles}
use Rattle.vd_command.specs.Words.{files_of, job_of, writes}
use Rattle.vd_command.specs.Outcomes.{Says}

-- the outcome is reached: done, a rule is broken, the words aren't taken, a limit is passed
abbrev pub IsCompleted : ℕ → Type 0
IsCompleted status = (status ≡ 0) ⊎ ((status ≡ 1) ⊎ ((status ≡ 2) ⊎ (status ≡ 6)))

-- the outcome of words with the files that are told, or with some contents of the FILEs where none are
abbrev pub IsOutcomeOf : Option (List (List ℕ × List ℕ)) → List (List ℕ) → Due → Type 0
IsOutcomeOf told words due = IsOutcomeOfFiles (Says (job_of words)) told (files_of (job_of words)) due

-- the FILE of that number, from 0, couldn't be opened or read. The first argument is the tray's meaning of its counts
abbrev pub FailsAt : {S : Type 0} → (S → List ℕ → ℕ) → S → S → Option (List (List ℕ × List ℕ)) → List (List ℕ) → ℕ → Type 0
FailsAt read_faults old new told words i = IsReadFault read_faults old new told (files_of (job_of words)) i

-- what was to be written: the outcome, where no fault in reading came, or the line of a fault in reading
abbrev pub IsDueOrFault : {S : Type 0} → (S → List ℕ → ℕ) → S → S → List (List ℕ) → Option (List (List ℕ × List ℕ)) → Due → Type 0
IsDueOrFault read_faults old new words told due = IsDueOrReadFault read_faults old new (Says (job_of words)) told (files_of (job_of words)) due

-- Design and Map are written: a conversion is done
abbrev pub Writes : List (List ℕ) → ℕ → Type 0
Writes words status = WritesFiles (writes (job_of words)) status
