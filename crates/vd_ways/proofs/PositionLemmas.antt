-- Places in lists.
use Rattle.std.proofs.Common.{◌≡◌, ℕ, Bool, List, Option, Some, None, sym, ap, ◌∙◌}
use Rattle.std.specs.Prelude.{position}
use Rattle.std.specs.Option.{unwrap_or}

-- no place is found
pub no_place : (p : ℕ → Bool) (xs ys : List ℕ) (found : Option ℕ) → found ≡ None → found ≡ position p xs → xs ≡ ys → 0 ≡ unwrap_or (position p ys) 0
no_place p xs ys found none is same = ap (λ o. unwrap_or o 0) (sym none ∙ is ∙ ap (position p) same)

pub some_place : (p : ℕ → Bool) (xs ys : List ℕ) (found : Option ℕ) (k : ℕ) → found ≡ Some k → found ≡ position p xs → xs ≡ ys
    → k ≡ unwrap_or (position p ys) 0
some_place p xs ys found k some is same = ap (λ o. unwrap_or o 0) (sym some ∙ is ∙ ap (position p) same)
