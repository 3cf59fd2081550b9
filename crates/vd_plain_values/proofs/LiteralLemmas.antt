-- Decimal numbers.
use Rattle.std.proofs.Common.{◌≡◌, ◌<◌, ◌≤◌, ℕ, ◌+◌, ◌-◌, ◌*◌, List, [], ◌∷◌, length, drop, get_or, sym, ap, ◌∙◌, arith}
use Rattle.std.proofs.lemmas.List.{drop_more}
use Rattle.vd_meaning.specs.Literals.{number_from}

pub number_grows : (n : ℕ) (cs : List ℕ) → n ≤ number_from n cs
number_grows n [] = omega arith
number_grows n (c ∷ cs) = let h = number_grows (n * 10 + (c - 48)) cs in omega arith

pub one_digit : (n i c : ℕ) (cs : List ℕ) → i < length cs → c ≡ get_or cs i c → number_from n (drop i cs) ≡ number_from (n * 10 + (c - 48)) (drop (i + 1) cs)
one_digit n i c cs below here = ap (number_from n) (drop_more cs i c below) ∙ ap (λ x. number_from (n * 10 + (x - 48)) (drop (i + 1) cs)) (sym here)

-- a number that is so large already stays so
pub large_so_far : (n i m want : ℕ) (cs : List ℕ) → i < length cs → number_from n (drop i cs) ≡ want → m ≤ n * 10 + (get_or cs i 0 - 48) → m ≤ want
large_so_far n i m want cs below is large =
    let grows = number_grows (n * 10 + (get_or cs i 0 - 48)) (drop (i + 1) cs) in
    let e = sym (ap (number_from n) (drop_more cs i 0 below)) ∙ is in
    omega arith
