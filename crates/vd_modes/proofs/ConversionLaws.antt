-- What is said of files that are to be converted: there is something, it is determined but where they break no rule, and what its status says.
use Rattle.std.proofs.Common.{◌≡◌, ◌<◌, ◌≤◌, ◌⊎◌, ℕ, List, Option, Some, None, refl, sym, ap, ◌∙◌, subst, inl, inr}
use Rattle.std.proofs.lemmas.Bool.{cases_lt}
use Rattle.vd_accepting.specs.Phases.{first_broken}
use Rattle.vd_bytes.specs.declared.answers.Limit.{Limit}
use Rattle.vd_bytes.specs.declared.answers.Limit.TheVariants as limits
use Rattle.vd_bytes.specs.declared.answers.Refused.{Refused}
use Rattle.vd_modes.proofs.CheckLemmas.{IsStatus}
use Rattle.vd_modes.specs.Checks.{refusal_in}
use Rattle.vd_design_files.specs.Files.{Answer, refused, beyond, holds, IsAnswer}
use Rattle.vd_design_files.specs.Laws.{HasOneAnswer, HasSomeAnswer}
use Rattle.vd_directives.specs.declared.selected.Line.{Line}
use Rattle.vd_forest.specs.Forest.{Forest, tree_count}
use Rattle.vd_forms.specs.declared.form.Form.{Form}
use Rattle.vd_program.specs.Dues.{Due, limit_passed}
use Rattle.vd_trees.specs.declared.revision.Revision.TheVariants.{V2019}
use Rattle.vd_trees.specs.declared.rows.Row.{Row}
use Rattle.vd_modes.specs.Conversions.{weight, unconverted, IsRefusedIn, IsRefused, IsBeyond, AreConverted}
use Rattle.vd_modes.specs.Dues.{conversion, MayBeConverted, SaysConversion}
use Rattle.vd_modes.specs.Texts.{IsIn93}

-- ---- statuses

pub conversion_status : (tool : List ℕ) (names contents : List (List ℕ)) (due : Due) → SaysConversion tool names contents due → IsStatus due.status
conversion_status tool names contents due (SaysConversion.refuses x is e) = subst (λ (d : Due). IsStatus d.status) (sym e) (inr (inl refl))
conversion_status tool names contents due (SaysConversion.limits limit is e) = subst (λ (d : Due). IsStatus d.status) (sym e) (inr (inr refl))
conversion_status tool names contents due (SaysConversion.is_long units rows warnings legal long e) = subst (λ (d : Due). IsStatus d.status) (sym e) (inr (inr refl))
conversion_status tool names contents due (SaysConversion.converts design rows units warnings legal in_93 short e) = subst (λ (d : Due). IsStatus d.status) (sym e) (inl refl)

-- what status 0 says
pub record IsWritten (tool : List ℕ) (names contents : List (List ℕ)) (due : Due) : Type 0 where
  pub design : List ℕ
  pub rows : List Row
  pub units : ℕ
  pub warnings : List (List Line)
  pub legal : AreConverted tool contents units warnings
  pub in_93 : IsIn93 design
  pub due_is : due ≡ conversion names warnings design rows units

pub zero_written : (tool : List ℕ) (names contents : List (List ℕ)) (due : Due) → SaysConversion tool names contents due → due.status ≡ 0 → IsWritten tool names contents due
zero_written tool names contents due (SaysConversion.refuses x is e) zero_status = let f = ap (λ (d : Due). d.status) e in cc
zero_written tool names contents due (SaysConversion.limits limit is e) zero_status = let f = ap (λ (d : Due). d.status) e in cc
zero_written tool names contents due (SaysConversion.is_long units rows warnings legal long e) zero_status = let f = ap (λ (d : Due). d.status) e in cc
zero_written tool names contents due (SaysConversion.converts design rows units warnings legal in_93 short e) zero_status =
    record { design = design; rows = rows; units = units; warnings = warnings; legal = legal; in_93 = in_93; due_is = e }

-- what status 1 says
pub one_refused : (tool : List ℕ) (names contents : List (List ℕ)) (due : Due) → SaysConversion tool names contents due → due.status ≡ 1
    → (x : Refused) × IsRefused tool contents x × (due ≡ refusal_in names x)
one_refused tool names contents due (SaysConversion.refuses x is e) one_status = (x, is, e)
one_refused tool names contents due (SaysConversion.limits limit is e) one_status = let f = ap (λ (d : Due). d.status) e in cc
one_refused tool names contents due (SaysConversion.is_long units rows warnings legal long e) one_status = let f = ap (λ (d : Due). d.status) e in cc
one_refused tool names contents due (SaysConversion.converts design rows units warnings legal in_93 short e) one_status = let f = ap (λ (d : Due). d.status) e in cc

-- ---- what is determined

-- what is due where files break a rule or pass a limit
abbrev settled_in : List (List ℕ) → Option Refused → Due
settled_in names (Some x) = refusal_in names x
settled_in names None = limit_passed limits.Nodes

abbrev settled : List (List ℕ) → Answer → Due
settled names (refused x) = refusal_in names x
settled names (beyond limit) = limit_passed limit
settled names (holds units warnings) = settled_in names (first_broken V2019 units)

abbrev IsSettled : List ℕ → List (List ℕ) → List (List ℕ) → Due → Type 0
IsSettled tool names contents due = (answer : Answer) × IsAnswer tool contents answer × (due ≡ settled names answer)

module _ (tool : List ℕ) (names contents : List (List ℕ)) where
  refused_settled : (due : Due) (x : Refused) → IsRefused tool contents x → due ≡ refusal_in names x → IsSettled tool names contents due ⊎ MayBeConverted tool contents
  refused_settled due x (IsRefused.of_texts is) e = inl (refused x, is, e)
  refused_settled due x (IsRefused.of_design units warnings is (IsRefusedIn.broken b)) e = inl (holds units warnings, is, e ∙ ap (settled_in names) (sym b))
  refused_settled due x (IsRefused.of_design units warnings is (IsRefusedIn.not_yet legal place)) e =
      inr (tree_count units, warnings, record { units = units; read = is; legal = legal; counted = refl })

  beyond_settled : (due : Due) (limit : Limit) → IsBeyond tool contents limit → due ≡ limit_passed limit → IsSettled tool names contents due
  beyond_settled due limit (IsBeyond.of_texts is) e = (beyond limit, is, e)
  beyond_settled due limit (IsBeyond.of_design units warnings is heavy) e =
      (holds units warnings, is, e ∙ ap limit_passed heavy.nodes ∙ ap (settled_in names) (sym heavy.accepted))

  said_settled : (due : Due) → SaysConversion tool names contents due → IsSettled tool names contents due ⊎ MayBeConverted tool contents
  said_settled due (SaysConversion.refuses x is e) = refused_settled due x is e
  said_settled due (SaysConversion.limits limit is e) = inl (beyond_settled due limit is e)
  said_settled due (SaysConversion.is_long units rows warnings legal long e) = inr (units, warnings, legal)
  said_settled due (SaysConversion.converts design rows units warnings legal in_93 short e) = inr (units, warnings, legal)

  both : HasOneAnswer → (a b : Due) → IsSettled tool names contents a ⊎ MayBeConverted tool contents → IsSettled tool names contents b ⊎ MayBeConverted tool contents
      → (a ≡ b) ⊎ MayBeConverted tool contents
  both one a b (inr x) y = inr x
  both one a b (inl x) (inr y) = inr y
  both one a b (inl x) (inl y) = inl (x.2 ∙ ap (settled names) (one tool contents x.0 y.0 x.1 y.1) ∙ sym y.2)

  pub conversion_one : HasOneAnswer → (a b : Due) → SaysConversion tool names contents a → SaysConversion tool names contents b → (a ≡ b) ⊎ MayBeConverted tool contents
  conversion_one one a b x y = both one a b (said_settled a x) (said_settled b y)

  -- ---- there is something

  some_legal : (units : Forest Form) (warnings : List (List Line)) → IsAnswer tool contents (holds units warnings) → first_broken V2019 units ≡ None
      → (4000000 < weight units) ⊎ (weight units ≤ 4000000) → (due : Due) × SaysConversion tool names contents due
  some_legal units warnings is none (inl heavy) =
      (limit_passed limits.Nodes, SaysConversion.limits limits.Nodes (IsBeyond.of_design units warnings is (record { accepted = none; heavy = heavy; nodes = refl })) refl)
  some_legal units warnings is none (inr light) = (
    refusal_in names (unconverted units),
    SaysConversion.refuses (unconverted units) (IsRefused.of_design units warnings is (IsRefusedIn.not_yet (record { accepted = none; light = light }) refl)) refl,
  )

  some_design : (units : Forest Form) (warnings : List (List Line)) → IsAnswer tool contents (holds units warnings) → (o : Option Refused) → first_broken V2019 units ≡ o
      → (due : Due) × SaysConversion tool names contents due
  some_design units warnings is (Some x) broken = (refusal_in names x, SaysConversion.refuses x (IsRefused.of_design units warnings is (IsRefusedIn.broken broken)) refl)
  some_design units warnings is None none = some_legal units warnings is none (cases_lt 4000000 (weight units))

  some_by : (answer : Answer) → IsAnswer tool contents answer → (due : Due) × SaysConversion tool names contents due
  some_by (refused x) is = (refusal_in names x, SaysConversion.refuses x (IsRefused.of_texts is) refl)
  some_by (beyond limit) is = (limit_passed limit, SaysConversion.limits limit (IsBeyond.of_texts is) refl)
  some_by (holds units warnings) is = some_design units warnings is (first_broken V2019 units) refl

  pub conversion_some : HasSomeAnswer → (due : Due) × SaysConversion tool names contents due
  conversion_some some = let x = some tool contents in some_by x.0 x.1
