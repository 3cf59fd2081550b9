-- Filtering, one element after the other.
use Rattle.std.proofs.Common.{◌≡◌, ◌<◌, ◌+◌, ℕ, Bool, true, false, List, [], ◌∷◌, ◌++◌, cond, length, drop, get_or, sym, ap, ◌∙◌, append_assoc}
use Rattle.std.specs.List.{filter}
use Rattle.std.proofs.lemmas.List.{drop_more}

filter_true : (p : ℕ → Bool) (x : ℕ) (xs : List ℕ) → p x ≡ true → filter p (x ∷ xs) ≡ x ∷ filter p xs
filter_true p x xs is = ap (λ b. cond b (x ∷ filter p xs) (filter p xs)) is

filter_false : (p : ℕ → Bool) (x : ℕ) (xs : List ℕ) → p x ≡ false → filter p (x ∷ xs) ≡ filter p xs
filter_false p x xs is = ap (λ b. cond b (x ∷ filter p xs) (filter p xs)) is

-- an element that passes is found
pub one_more_found : (p : ℕ → Bool) (xs found found' all : List ℕ) (i x : ℕ) → i < length xs → x ≡ get_or xs i x → p x ≡ true
    → found' ≡ found ++ x ∷ [] → found ++ filter p (drop i xs) ≡ all → found' ++ filter p (drop (i + 1) xs) ≡ all
one_more_found p xs found found' all i x within is passes more so_far =
    let rest : drop i xs ≡ x ∷ drop (i + 1) xs = drop_more xs i x within ∙ ap (λ y. y ∷ drop (i + 1) xs) (sym is) in
    ap (λ f. f ++ filter p (drop (i + 1) xs)) more ∙ append_assoc found (x ∷ []) (filter p (drop (i + 1) xs))
    ∙ ap (λ f. found ++ f) (sym (filter_true p x (drop (i + 1) xs) passes) ∙ ap (filter p) (sym rest)) ∙ so_far

-- and any other isn't
pub one_less_left : (p : ℕ → Bool) (xs found found' all : List ℕ) (i x : ℕ) → i < length xs → x ≡ get_or xs i x → p x ≡ false
    → found' ≡ found → found ++ filter p (drop i xs) ≡ all → found' ++ filter p (drop (i + 1) xs) ≡ all
one_less_left p xs found found' all i x within is passes same so_far =
    let rest : drop i xs ≡ x ∷ drop (i + 1) xs = drop_more xs i x within ∙ ap (λ y. y ∷ drop (i + 1) xs) (sym is) in
    ap (λ f. f ++ filter p (drop (i + 1) xs)) same
    ∙ ap (λ f. found ++ f) (sym (filter_false p x (drop (i + 1) xs) passes) ∙ ap (filter p) (sym rest)) ∙ so_far
