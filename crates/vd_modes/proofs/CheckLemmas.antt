-- What is said of files: there is one answer, and when its status is 0.
use Rattle.std.proofs.Common.{◌≡◌, ◌<◌, ◌≤◌, ◌⊎◌, ◌++◌, ℕ, Bool, true, false, List, length, Option, Some, None, refl, sym, ap, ◌∙◌, subst, arith, inl, inr, lt-ltb, le-ltb}
use Rattle.std.proofs.lemmas.Bool.{cases_lt}
use Rattle.std.specs.Prelude.{nat_lt, if◌then◌else◌}
use Rattle.vd_bytes.specs.declared.answers.Limit.TheVariants as limits
use Rattle.vd_bytes.specs.declared.answers.Refused.{Refused}
use Rattle.vd_design_files.specs.Files.{Answer, refused, beyond, holds, IsAnswer}
use Rattle.vd_design_files.specs.Laws.{HasOneAnswer, HasSomeAnswer}
use Rattle.vd_directives.specs.declared.selected.Line.{Line}
use Rattle.vd_forest.specs.Forest.{Forest, tree_count}
use Rattle.vd_forms.specs.declared.form.Form.{Form}
use Rattle.vd_program.specs.Dues.{Due, console_alone, limit_number, limit_passed}
use Rattle.vd_accepting.specs.Phases.{first_broken}
use Rattle.vd_trees.specs.declared.revision.Revision.TheVariants.{V2019}
use Rattle.vd_modes.specs.Checks.{accepted, accepted_line, console_of, due_of, judgement, MeetsRules, SaysCheck, warnings_from}

-- the statuses of the mode
abbrev pub IsStatus : ℕ → Type 0
IsStatus status = (status ≡ 0) ⊎ ((status ≡ 1) ⊎ (status ≡ 6))

accepted_status_by : (long : Bool) (console : List ℕ) → IsStatus (if long then limit_passed limits.Output else console_alone 0 console).status
accepted_status_by true console = inr (inr refl)
accepted_status_by false console = inl refl

judgement_status : (names : List (List ℕ)) (warnings : List (List Line)) (units : ℕ) (o : Option Refused) → IsStatus (judgement names warnings units o).status
judgement_status names warnings units (Some x) = inr (inl refl)
judgement_status names warnings units None = accepted_status_by (nat_lt (limit_number limits.Output) (length (warnings_from names 0 warnings ++ accepted_line units))) (warnings_from names 0 warnings ++ accepted_line units)

due_status : (names : List (List ℕ)) (a : Answer) → IsStatus (due_of names a).status
due_status names (refused x) = inr (inl refl)
due_status names (beyond limit) = inr (inr refl)
due_status names (holds units warnings) = judgement_status names warnings (tree_count units) (first_broken V2019 units)

pub check_status : (tool : List ℕ) (names contents : List (List ℕ)) (due : Due) → SaysCheck tool names contents due → IsStatus due.status
check_status tool names contents due x = subst (λ (d : Due). IsStatus d.status) (sym x.2) (due_status names x.0)

-- ---- one answer

pub check_one : HasOneAnswer → (tool : List ℕ) (names contents : List (List ℕ)) (a b : Due) → SaysCheck tool names contents a → SaysCheck tool names contents b → a ≡ b
check_one one tool names contents a b x y = x.2 ∙ ap (due_of names) (one tool contents x.0 y.0 x.1 y.1) ∙ sym y.2

pub check_some : HasSomeAnswer → (tool : List ℕ) (names contents : List (List ℕ)) → (due : Due) × SaysCheck tool names contents due
check_some some tool names contents = let x = some tool contents in (due_of names x.0, (x.0, x.1, refl))

-- ---- status 0

module _ (tool : List ℕ) (names contents : List (List ℕ)) where
  by_length : (units : Forest Form) (warnings : List (List Line)) → IsAnswer tool contents (holds units warnings) → first_broken V2019 units ≡ None
      → (limit_number limits.Output < length (console_of names units warnings)) ⊎ (length (console_of names units warnings) ≤ limit_number limits.Output)
      → (accepted (console_of names units warnings)).status ≡ 0 → MeetsRules tool names contents
  by_length units warnings is none (inl more) zero_status =
      let six : 6 ≡ 0 = sym (ap (λ b. (if b then limit_passed limits.Output else console_alone 0 (console_of names units warnings)).status) (lt-ltb (limit_number limits.Output) (length (console_of names units warnings)) more)) ∙ zero_status in
      absurd (omega (arith, six))
  by_length units warnings is none (inr short) zero_status = record { units = units; warnings = warnings; read = is; meets = none; short = short }

  by_rules : (units : Forest Form) (warnings : List (List Line)) → IsAnswer tool contents (holds units warnings) → (o : Option Refused) → first_broken V2019 units ≡ o
      → (judgement names warnings (tree_count units) o).status ≡ 0 → MeetsRules tool names contents
  by_rules units warnings is (Some x) broken zero_status = absurd (omega (arith, zero_status))
  by_rules units warnings is None none zero_status = by_length units warnings is none (cases_lt (limit_number limits.Output) (length (console_of names units warnings))) zero_status

  by_answer : (a : Answer) → IsAnswer tool contents a → (due_of names a).status ≡ 0 → MeetsRules tool names contents
  by_answer (refused x) is zero_status = absurd (omega (arith, zero_status))
  by_answer (beyond limit) is zero_status = absurd (omega (arith, zero_status))
  by_answer (holds units warnings) is zero_status = by_rules units warnings is (first_broken V2019 units) refl zero_status

  -- status 0 is answered of files that meet the rules alone
  pub zero_meets : (due : Due) → SaysCheck tool names contents due → due.status ≡ 0 → MeetsRules tool names contents
  zero_meets due x zero_status = by_answer x.0 x.1 (sym (ap (λ (d : Due). d.status) x.2) ∙ zero_status)

  accepted_zero : (console : List ℕ) → length console ≤ limit_number limits.Output → (accepted console).status ≡ 0
  accepted_zero console short = ap (λ b. (if b then limit_passed limits.Output else console_alone 0 console).status) (le-ltb (limit_number limits.Output) (length console) short)

  -- and of all of them
  pub meets_zero : HasOneAnswer → MeetsRules tool names contents → (due : Due) → SaysCheck tool names contents due → due.status ≡ 0
  meets_zero one m due x =
      let answer = one tool contents x.0 (holds m.units m.warnings) x.1 m.read in
      ap (λ (d : Due). d.status) (x.2 ∙ ap (due_of names) answer ∙ ap (judgement names m.warnings (tree_count m.units)) m.meets) ∙ accepted_zero (console_of names m.units m.warnings) m.short
