-- What the parts that all modes share say of a mode, in the words that ask for it.
use Rattle.std.proofs.Common.{◌≡◌, ◌≢◌, ◌<◌, ◌≤◌, ◌⊎◌, ℕ, Bool, List, [], refl, sym, ap, ◌∙◌, subst, arith, inl, inr, Option, Some, None, IfSome}
use Rattle.std.proofs.lemmas.Bool.{cases_lt}
use Rattle.std.specs.Prelude.{slice_index_or}
use Rattle.vd_bytes.specs.declared.channels.Channel.{Channel}
use Rattle.vd_bytes.specs.Trays.{Rose}
use Rattle.vd_modes.proofs.CheckLemmas.{IsStatus, check_status}
use Rattle.vd_modes.proofs.ConversionLaws.{conversion_status}
use Rattle.vd_program.specs.Dues.{Due, refused_words, read_fault}
use Rattle.vd_program.specs.Outcomes.{contents_of, IsFilesOutcome, IsOutcomeOfFiles, IsReadFault, IsOwnStatus, WritesFiles}
use Rattle.vd_program.specs.Endings.{GotAll}
use Rattle.vd_command.specs.Words.{Job, refusing, converting, checking, files_of, job_of, writes}
use Rattle.vd_command.specs.Outcomes.{Says, SaysConversion}
use Rattle.vd_command.specs.Endings.{IsCompleted, IsOutcomeOf, Writes}
use Rattle.vd_command.specs.Headline.{HasNoFault}

-- ---- statuses

completed_of : (n : ℕ) → IsStatus n → IsCompleted n
completed_of n (inl z) = inl z
completed_of n (inr (inl z)) = inr (inl z)
completed_of n (inr (inr z)) = inr (inr (inr z))

conversion_completed : (tool : List ℕ) (names contents : List (List ℕ)) (due : Due) → SaysConversion tool names contents due → IsCompleted due.status
conversion_completed tool names contents due (SaysConversion.first x) = subst (λ (d : Due). IsCompleted d.status) (sym x.due_is) (inl refl)
conversion_completed tool names contents due (SaysConversion.other none x) = completed_of due.status (conversion_status tool names contents due x)

said_status : (job : Job) (names contents : List (List ℕ)) (due : Due) → Says job names contents due → IsCompleted due.status
said_status refusing names contents due e = subst (λ (d : Due). IsCompleted d.status) (sym e) (inr (inr (inl refl)))
said_status (converting tool files) names contents due x = conversion_completed tool names contents due x
said_status (checking tool files) names contents due x = completed_of due.status (check_status tool names contents due x)

job_status : (job : Job) (names contents : List (List ℕ)) (due : Due) → IsFilesOutcome (Says job) names contents due → IsCompleted due.status
job_status job names contents due (IsFilesOutcome.many_files many e) = subst (λ (d : Due). IsCompleted d.status) (sym e) (inr (inr (inr refl)))
job_status job names contents due (IsFilesOutcome.long_input few long e) = subst (λ (d : Due). IsCompleted d.status) (sym e) (inr (inr (inr refl)))
job_status job names contents due (IsFilesOutcome.said few within x) = said_status job names contents due x

-- a status of an outcome is none of the others
pub not_three : (n : ℕ) → IsCompleted n → n ≢ 3
not_three n (inl z) f = cc
not_three n (inr (inl z)) f = cc
not_three n (inr (inr (inl z))) f = cc
not_three n (inr (inr (inr z))) f = cc

pub not_four : (n : ℕ) → IsCompleted n → n ≢ 4
not_four n (inl z) f = cc
not_four n (inr (inl z)) f = cc
not_four n (inr (inr (inl z))) f = cc
not_four n (inr (inr (inr z))) f = cc

pub not_five : (n : ℕ) → IsCompleted n → n ≢ 5
not_five n (inl z) f = cc
not_five n (inr (inl z)) f = cc
not_five n (inr (inr (inl z))) f = cc
not_five n (inr (inr (inr z))) f = cc

low : (n : ℕ) → IsCompleted n → n < 7
low n (inl z) = omega (arith, z)
low n (inr (inl z)) = omega (arith, z)
low n (inr (inr (inl z))) = omega (arith, z)
low n (inr (inr (inr z))) = omega (arith, z)

-- ---- words that aren't taken

refused_by : (job : Job) (told : Option (List (List ℕ × List ℕ))) → job ≡ refusing → IsOutcomeOfFiles (Says job) told (files_of job) refused_words
refused_by job told none =
    subst (λ j. IsOutcomeOfFiles (Says j) told (files_of j) refused_words) (sym none)
    (record { contents = []; as_many = refl; are_told = told_nothing told; outcome = IsFilesOutcome.said (omega arith) (omega arith) refl })
  where
    told_nothing : (o : Option (List (List ℕ × List ℕ))) → IfSome o (λ files. [] ≡ contents_of files [])
    told_nothing None = tt
    told_nothing (Some files) = refl

-- their outcome, whatever the files hold
pub refused_outcome : (told : Option (List (List ℕ × List ℕ))) (words : List (List ℕ)) → job_of words ≡ refusing → IsOutcomeOf told words refused_words
refused_outcome told words none = refused_by (job_of words) told none

pub writes_nothing : (words : List (List ℕ)) (status : ℕ) → job_of words ≡ refusing → Writes words status → ⊥
writes_nothing words status none w = let e : writes refusing ≡ writes (job_of words) = ap writes (sym none) in let t = e ∙ w.0 in cc

-- ---- what a call answers that carries a mode out

module _ (words : List (List ℕ)) (job : Job) (asks : job_of words ≡ job) where
  -- what is said of the job is said of the words
  pub by_job : (P : (List (List ℕ) → List (List ℕ) → Due → Type 0) → Bool → List (List ℕ) → Type 0) → P (Says job) (writes job) (files_of job) → P (Says (job_of words)) (writes (job_of words)) (files_of (job_of words))
  by_job P x = subst (λ j. P (Says j) (writes j) (files_of j)) (sym asks) x

  pub job_writes : (status : ℕ) → WritesFiles (writes job) status → Writes words status
  job_writes status w = subst (λ j. WritesFiles (writes j) status) (sym asks) w

  pub words_write : (status : ℕ) → Writes words status → WritesFiles (writes job) status
  words_write status w = subst (λ j. WritesFiles (writes j) status) asks w

module _ {S : Type 0} (read_faults : S → List ℕ → ℕ) (write_faults : S → ℕ) (written : S → Channel → Option (List ℕ)) (old new : S) (told : Option (List (List ℕ × List ℕ))) (words : List (List ℕ)) (status : ℕ) where
  abbrev pub Completes : (List (List ℕ) → List (List ℕ) → Due → Type 0) → Bool → List (List ℕ) → Type 0
  Completes says w names = status ≢ 3 → status ≢ 4 → status ≢ 5 → (due : Due) × (due.status ≡ status) × IsOwnStatus status × IsOutcomeOfFiles says told names due × GotAll written old new due

  abbrev pub Faults : (List (List ℕ) → List (List ℕ) → Due → Type 0) → Bool → List (List ℕ) → Type 0
  Faults says w names = status ≡ 3 → (i : ℕ) × IsReadFault read_faults old new told names i × GotAll written old new (read_fault (slice_index_or names i []))

  module _ (completes : Completes (Says (job_of words)) (writes (job_of words)) (files_of (job_of words))) (faults : Faults (Says (job_of words)) (writes (job_of words)) (files_of (job_of words))) (write_fault : status ≡ 4 → Rose (write_faults old) (write_faults new)) where
    reached : status ≢ 3 → status ≢ 4 → status ≢ 5 → IsCompleted status
    reached three four five =
        let x = completes three four five in
        subst IsCompleted x.1 (job_status (job_of words) (files_of (job_of words)) x.3.contents x.0 x.3.outcome)

    pub as_completed : IsCompleted status → (due : Due) × (due.status ≡ status) × IsOutcomeOf told words due × GotAll written old new due
    as_completed done = let x = completes (not_three status done) (not_four status done) (not_five status done) in (x.0, x.1, x.3, x.4)

    pub as_complete : HasNoFault read_faults write_faults old new words → status ≢ 5 → IsCompleted status
    as_complete none five = reached (λ three. let x = faults three in none.reading x.0 x.1.inside x.1.rose) (λ four. none.writing (write_fault four)) five

    pub below_seven : status < 7
    below_seven = by (cases_lt 6 status)
      where
        by : (6 < status) ⊎ (status ≤ 6) → status < 7
        by (inl more) = low status (reached (λ e. omega (arith, e, more)) (λ e. omega (arith, e, more)) (λ e. omega (arith, e, more)))
        by (inr few) = omega (arith, few)

-- what is said of names that are a job's FILEs
pub by_names : (words : List (List ℕ)) (job : Job) → job_of words ≡ job → (names : List (List ℕ)) → names ≡ files_of job
    → (P : (List (List ℕ) → List (List ℕ) → Due → Type 0) → Bool → List (List ℕ) → Type 0) → P (Says job) (writes job) names → P (Says (job_of words)) (writes (job_of words)) (files_of (job_of words))
by_names words job asks names are P x = by_job words job asks P (subst (P (Says job) (writes job)) are x)
