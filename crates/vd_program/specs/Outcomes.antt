-- What is due for the FILEs of a mode.
use Rattle.std.specs.Prelude.{◌≡◌, ◌≢◌, ◌<◌, ◌≤◌, ◌⊎◌, ℕ, Bool, List, [], length, map, take, slice_index_or, sum_by, Option, IfSome, IsTrue}
use Rattle.vd_bytes.specs.declared.answers.Limit.TheVariants as limits
use Rattle.vd_bytes.specs.Trays.{content_of, Rose, SameCounts}
use Rattle.vd_program.specs.Dues.{Due, limit_number, limit_passed, read_fault}

-- ---- the contents of the FILEs

-- what the files of these names hold, in the order of the names. A file that is named twice stands here twice
abbrev pub contents_of : List (List ℕ × List ℕ) → List (List ℕ) → List (List ℕ)
contents_of files names = map (content_of files) names

-- how many bytes they have together
abbrev pub total_length : List (List ℕ) → ℕ
total_length contents = sum_by length contents

-- ---- the answers, in their order

-- What is due for files of these names with these contents. Too many names come before all else, then too many bytes in all
-- files, and then what the mode says of them, which is the first argument.
pub data IsFilesOutcome (says : List (List ℕ) → List (List ℕ) → Due → Type 0) (names contents : List (List ℕ)) (due : Due) : Type 0 where
  many_files : limit_number limits.Files < length names → due ≡ limit_passed limits.Files → IsFilesOutcome says names contents due
  long_input : length names ≤ limit_number limits.Files → limit_number limits.Input < total_length contents → due ≡ limit_passed limits.Input → IsFilesOutcome says names contents due
  said : length names ≤ limit_number limits.Files → total_length contents ≤ limit_number limits.Input → says names contents due → IsFilesOutcome says names contents due

-- the same of the contents that are told, or of some contents where none are
pub record IsOutcomeOfFiles (says : List (List ℕ) → List (List ℕ) → Due → Type 0) (told : Option (List (List ℕ × List ℕ))) (names : List (List ℕ)) (due : Due) : Type 0 where
  pub contents : List (List ℕ)
  pub as_many : length contents ≡ length names
  pub are_told : IfSome told (λ files. contents ≡ contents_of files names)
  pub outcome : IsFilesOutcome says names contents due

-- The FILE of that number, from 0, couldn't be opened or read: its count rose. The files before it were read whole, within the
-- limits. The first argument is the tray's meaning of its counts.
pub record IsReadFault {S : Type 0} (read_faults : S → List ℕ → ℕ) (old new : S) (told : Option (List (List ℕ × List ℕ))) (names : List (List ℕ)) (i : ℕ) : Type 0 where
  pub few : length names ≤ limit_number limits.Files
  pub inside : i < length names
  pub rose : Rose (read_faults old (slice_index_or names i [])) (read_faults new (slice_index_or names i []))
  pub before : IfSome told (λ files. total_length (contents_of files (take i names)) ≤ limit_number limits.Input)

-- what was to be written: the outcome, where no fault in reading came, or the line of a fault in reading
abbrev pub IsDueOrReadFault : {S : Type 0} → (S → List ℕ → ℕ) → S → S → (List (List ℕ) → List (List ℕ) → Due → Type 0) → Option (List (List ℕ × List ℕ)) → List (List ℕ) → Due → Type 0
IsDueOrReadFault read_faults old new says told names due =
    (SameCounts (read_faults old) (read_faults new) × IsOutcomeOfFiles says told names due)
    ⊎ ((i : ℕ) × IsReadFault read_faults old new told names i × (due ≡ read_fault (slice_index_or names i [])))

-- ---- what a mode gives

-- none of the statuses that the parts give that all modes share: refused words, the two faults, want of memory
pub record IsOwnStatus (status : ℕ) : Type 0 where
  pub no_words : status ≢ 2
  pub no_read_fault : status ≢ 3
  pub no_write_fault : status ≢ 4
  pub no_memory : status ≢ 5

-- Design and Map are written: by a mode that writes them, where it is done
abbrev pub WritesFiles : Bool → ℕ → Type 0
WritesFiles writes status = IsTrue writes × (status ≡ 0)

-- nothing is due on Design and Map
pub record HasConsoleAlone (due : Due) : Type 0 where
  pub design : due.design ≡ []
  pub map : due.map ≡ []

-- What is ready to be written: a fault in reading came and that is to be said, or no fault came and it is the outcome. The first argument is the
-- tray's meaning of its counts.
pub data IsReady {S : Type 0} (read_faults : S → List ℕ → ℕ) (old new : S) (says : List (List ℕ) → List (List ℕ) → Due → Type 0) (told : Option (List (List ℕ × List ℕ))) (names : List (List ℕ)) (due : Due) : Type 0 where
  faulted : (i : ℕ) → IsReadFault read_faults old new told names i → due ≡ read_fault (slice_index_or names i []) → IsReady read_faults old new says told names due
  formed : SameCounts (read_faults old) (read_faults new) → IsOwnStatus due.status → IsOutcomeOfFiles says told names due → IsReady read_faults old new says told names due
