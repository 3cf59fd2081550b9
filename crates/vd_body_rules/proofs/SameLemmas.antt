-- Forests that are still to be compared. No name has a dash, so that a caller can name each in `#[tactic(auto, using(..))]`.
use Rattle.std.proofs.Common.{◌≡◌, ◌+◌, Bool, List, [], ap, false, refl, sym, true, ℕ, ◌&&◌, ◌++◌, ◌∙◌, ◌∷◌, arith}
use Rattle.std.proofs.lemmas.List.Folds.{list_all-append}
use Rattle.std.proofs.lemmas.List.Sums.{sum_by-append}
use Rattle.std.specs.List.{list_all, sum_by}
use Rattle.vd_body_rules.specs.Comparing.{is_left_same, work}
use Rattle.vd_body_rules.specs.declared.same.Both.{Both}
use Rattle.vd_body_rules.specs.declared.same.Compared.{Compared}
use Rattle.vd_body_rules.specs.declared.same.Compared.TheVariants.{Different, Further, Nothing}
use Rattle.vd_value_rules.specs.Bodies.{say_same}

module _ (ps : List (ℕ × ℕ)) where
  abbrev pub all_same : List Both → Bool
  all_same bs = list_all (λ b. say_same ps b.one b.other) bs

  with_last : (ls : List Both) (b : Both) → all_same (ls ++ b ∷ []) ≡ (all_same ls && say_same ps b.one b.other)
  with_last ls b = list_all-append (λ c. say_same ps c.one c.other) ls (b ∷ []) ∙ ap (λ t. all_same ls && t) (and_true (say_same ps b.one b.other))
    where
      and_true : (t : Bool) → (t && true) ≡ t
      and_true true = refl
      and_true false = refl

  left_is : (us ls : List Both) (b : Both) (c : Compared) → us ≡ ls ++ b ∷ [] → is_left_same ps c ≡ say_same ps b.one b.other
      → all_same us ≡ (all_same ls && is_left_same ps c)
  left_is us ls b c popped same = ap all_same popped ∙ with_last ls b ∙ ap (λ t. all_same ls && t) (sym same)

  pub same_nothing : (us ls : List Both) (b : Both) (c : Compared) → us ≡ ls ++ b ∷ [] → is_left_same ps c ≡ say_same ps b.one b.other
      → c ≡ Nothing → all_same ls ≡ all_same us
  same_nothing us ls b c popped same is = sym (left_is us ls b c popped same ∙ ap (λ d. all_same ls && is_left_same ps d) is ∙ and_true (all_same ls))
    where
      and_true : (t : Bool) → (t && true) ≡ t
      and_true true = refl
      and_true false = refl

  pub same_different : (us ls : List Both) (b : Both) (c : Compared) → us ≡ ls ++ b ∷ [] → is_left_same ps c ≡ say_same ps b.one b.other
      → c ≡ Different → false ≡ all_same us
  same_different us ls b c popped same is = sym (left_is us ls b c popped same ∙ ap (λ d. all_same ls && is_left_same ps d) is ∙ and_false (all_same ls))
    where
      and_false : (t : Bool) → (t && false) ≡ false
      and_false true = refl
      and_false false = refl

  pub same_further : (us ls vs : List Both) (b : Both) (c : Compared) (parts next : Both) → us ≡ ls ++ b ∷ [] → is_left_same ps c ≡ say_same ps b.one b.other
      → c ≡ Further parts next → vs ≡ (ls ++ next ∷ []) ++ parts ∷ [] → all_same vs ≡ all_same us
  same_further us ls vs b c parts next popped same is pushed =
      ap all_same pushed ∙ with_last (ls ++ next ∷ []) parts ∙ ap (λ t. t && say_same ps parts.one parts.other) (with_last ls next)
      ∙ turned (all_same ls) (say_same ps next.one next.other) (say_same ps parts.one parts.other)
      ∙ sym (left_is us ls b c popped same ∙ ap (λ d. all_same ls && is_left_same ps d) is)
    where
      turned : (t u v : Bool) → ((t && u) && v) ≡ (t && (v && u))
      turned true true true = refl
      turned true true false = refl
      turned true false true = refl
      turned true false false = refl
      turned false u v = refl

pub work_last : (us ls : List Both) (b : Both) → us ≡ ls ++ b ∷ [] → sum_by work us ≡ sum_by work ls + work b
work_last us ls b popped = ap (sum_by work) popped ∙ sum_by-append work ls (b ∷ []) ∙ omega arith

pub ruleset same_steps = (same_nothing, same_different, same_further, work_last)
