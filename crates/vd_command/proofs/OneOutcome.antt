-- Words and files have one outcome.
use Rattle.std.proofs.Common.{◌≡◌, ◌⊎◌, ℕ, List, sym, ap, ◌∙◌, subst, arith, inl, inr}
use Rattle.vd_modes.proofs.CheckLemmas.{check_one}
use Rattle.vd_modes.proofs.ConversionLaws as whole
use Rattle.vd_modes.specs.Dues.{MayBeConverted}
use Rattle.vd_design_files.specs.Laws.{HasOneAnswer}
use Rattle.vd_first_lex.specs.Lexings.{plain_of}
use Rattle.vd_first_lower.specs.Conversions.{converted, IsConversion}
use Rattle.vd_first_lower.specs.Steps.{HasOneConversion}
use Rattle.vd_program.specs.Dues.{Due}
use Rattle.vd_program.specs.Outcomes.{contents_of, IsFilesOutcome}
use Rattle.vd_trees.specs.declared.rows.Row.{Row}
use Rattle.vd_command.specs.Words.{Job, refusing, converting, checking, files_of, job_of}
use Rattle.vd_command.specs.Outcomes.{conversion, IsFirst, IsNotFirst, Says, SaysConversion, AreOne, HasOneOutcome}

-- ---- what the modes share

module _ (same : Due → Due → Type 0) (equal : (a b : Due) → a ≡ b → same a b) (says : List (List ℕ) → List (List ℕ) → Due → Type 0) (names contents : List (List ℕ))
    (one : (a b : Due) → says names contents a → says names contents b → same a b) where
  files_one : (a b : Due) → IsFilesOutcome says names contents a → IsFilesOutcome says names contents b → same a b
  files_one a b (IsFilesOutcome.many_files many e) (IsFilesOutcome.many_files many' f) = equal a b (e ∙ sym f)
  files_one a b (IsFilesOutcome.many_files many e) (IsFilesOutcome.long_input few long f) = absurd (omega (arith, many, few))
  files_one a b (IsFilesOutcome.many_files many e) (IsFilesOutcome.said few within f) = absurd (omega (arith, many, few))
  files_one a b (IsFilesOutcome.long_input few long e) (IsFilesOutcome.many_files many f) = absurd (omega (arith, many, few))
  files_one a b (IsFilesOutcome.long_input few long e) (IsFilesOutcome.long_input few' long' f) = equal a b (e ∙ sym f)
  files_one a b (IsFilesOutcome.long_input few long e) (IsFilesOutcome.said few' within f) = absurd (omega (arith, long, within))
  files_one a b (IsFilesOutcome.said few within e) (IsFilesOutcome.many_files many f) = absurd (omega (arith, many, few))
  files_one a b (IsFilesOutcome.said few within e) (IsFilesOutcome.long_input few' long f) = absurd (omega (arith, long, within))
  files_one a b (IsFilesOutcome.said few within e) (IsFilesOutcome.said few' within' f) = one a b e f

-- ---- conversions

conversions_same : (d e : List ℕ) (rs ss : List Row) (m n : ℕ) → converted d rs m ≡ converted e ss n → conversion d rs m ≡ conversion e ss n
conversions_same d e rs ss m n x =
    let design : d ≡ e = cc in
    let rows : rs ≡ ss = cc in
    let units : m ≡ n = cc in
    ap (λ t. conversion t rs m) design ∙ ap (λ t. conversion e t m) rows ∙ ap (λ t. conversion e ss t) units

-- a text of the first language has one conversion
first_one : HasOneConversion → (contents : List (List ℕ)) (a b : Due) → IsFirst contents a → IsFirst contents b → a ≡ b
first_one one contents a b x y =
    let same : x.content ≡ y.content = let e = sym x.alone ∙ y.alone in cc in
    let is = subst (λ c. IsConversion (plain_of 0 c) (converted x.design x.rows x.units)) same x.is in
    let answers = one (plain_of 0 y.content) (converted x.design x.rows x.units) (converted y.design y.rows y.units) is y.is in
    x.due_is ∙ conversions_same x.design y.design x.rows y.rows x.units y.units answers ∙ sym y.due_is

conversion_one : HasOneConversion → HasOneAnswer → (tool : List ℕ) (names contents : List (List ℕ)) (a b : Due) → SaysConversion tool names contents a → SaysConversion tool names contents b
    → (a ≡ b) ⊎ (IsNotFirst contents × MayBeConverted tool contents)
conversion_one one answer tool names contents a b (SaysConversion.first x) (SaysConversion.first y) = inl (first_one one contents a b x y)
conversion_one one answer tool names contents a b (SaysConversion.first x) (SaysConversion.other none y) = absurd (none a x)
conversion_one one answer tool names contents a b (SaysConversion.other none x) (SaysConversion.first y) = absurd (none b y)
conversion_one one answer tool names contents a b (SaysConversion.other none x) (SaysConversion.other none' y) =
    by (whole.conversion_one tool names contents answer a b x y)
  where
    by : (a ≡ b) ⊎ MayBeConverted tool contents → (a ≡ b) ⊎ (IsNotFirst contents × MayBeConverted tool contents)
    by (inl e) = inl e
    by (inr legal) = inr (none, legal)

-- ---- all modes

equal_are_one : (job : Job) (contents : List (List ℕ)) (a b : Due) → a ≡ b → AreOne job contents a b
equal_are_one refusing contents a b e = e
equal_are_one (converting tool files) contents a b e = inl e
equal_are_one (checking tool files) contents a b e = e

module _ (one_conversion : HasOneConversion) (one_answer : HasOneAnswer) where
  says_one : (job : Job) (names contents : List (List ℕ)) (a b : Due) → Says job names contents a → Says job names contents b → AreOne job contents a b
  says_one refusing names contents a b x y = x ∙ sym y
  says_one (converting tool files) names contents a b x y = conversion_one one_conversion one_answer tool names contents a b x y
  says_one (checking tool files) names contents a b x y = check_one one_answer tool names contents a b x y

  pub one_outcome : HasOneOutcome
  one_outcome words files a b x y =
      let job = job_of words in
      let contents = contents_of files (files_of job) in
      files_one (AreOne job contents) (equal_are_one job contents) (Says job) (files_of job) contents (says_one job (files_of job) contents) a b x y
