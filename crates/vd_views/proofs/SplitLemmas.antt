-- Numbers that are put behind others. No name has a dash, so that a caller can name it in `#[tactic(auto, using(..))]`.
use Rattle.std.proofs.Common.{◌≡◌, ◌+◌, ℕ, suc, List, [], ◌∷◌, ◌++◌, sym, ap, ◌∙◌, append_assoc}
use Rattle.vd_views.specs.Splits.{numbers_from}

pub one_more : (found added others : List ℕ) (first more number : ℕ) → number ≡ first + more → found ≡ others ++ numbers_from first more → added ≡ found ++ number ∷ []
    → added ≡ others ++ numbers_from first (suc more)
one_more found added others first more number is before added_is =
    added_is ∙ (λ i. before i ++ is i ∷ []) ∙ append_assoc others (numbers_from first more) ((first + more) ∷ [])

pub ruleset numbering = (one_more)
