-- Tables of the numbers that stand for others.
use Rattle.std.proofs.Common.{◌≡◌, ◌<◌, ◌≤◌, ◌+◌, ◌-◌, ◌++◌, ◌&&◌, ℕ, zero, suc, not, nat_lt, cond, List, [], ◌∷◌, length, get_or, set, drop, refl, sym, ap, ◌∙◌, arith}
use Rattle.std.proofs.lemmas.Bool.Decides.{nat_tests}
use Rattle.std.proofs.lemmas.Bool.{cases_eq}
use Rattle.std.proofs.lemmas.Grind.{get_or-set_at}
use Rattle.std.proofs.lemmas.List.{drop_more, get_or-set_other}
use Rattle.vd_name_rows.specs.declared.notes.Taken.{Taken}
use Rattle.vd_naming.specs.Settled.{is_taken, settled}

-- a number that stands for itself stands for what it stood for
room_from : (xs : List ℕ) (k n : ℕ) → get_or (xs ++ (k + length xs) ∷ []) n (k + n) ≡ get_or xs n (k + n)
room_from [] k zero = refl
room_from [] k (suc n) = refl
room_from (x ∷ xs) k zero = refl
room_from (x ∷ xs) k (suc n) =
    let e : k + suc (length xs) ≡ suc k + length xs = omega arith in
    let f : k + suc n ≡ suc k + n = omega arith in
    rw e (rw f (room_from xs (suc k) n))

pub room_for_one : (xs : List ℕ) (n : ℕ) → get_or (xs ++ length xs ∷ []) n n ≡ get_or xs n n
room_for_one xs n =
    let e : 0 + length xs ≡ length xs = omega arith in
    let f : 0 + n ≡ n = omega arith in
    ap (λ m. get_or (xs ++ m ∷ []) n n) (sym e)
    ∙ ap (λ m. get_or (xs ++ (0 + length xs) ∷ []) n m) (sym f)
    ∙ room_from xs 0 n
    ∙ ap (λ m. get_or xs n m) f

-- ---- a header whose numbers up to one are put

abbrev pub with_put : ℕ → ℕ → ℕ → List ℕ → ℕ → ℕ
with_put first other end xs n = cond (not (nat_lt n first) && nat_lt n end) ((n - first) + other) (get_or xs n n)

pub nothing_put : (first other : ℕ) (xs : List ℕ) (n : ℕ) → get_or xs n n ≡ with_put first other first xs n
nothing_put first other xs n = grind (arith, nat_tests)

pub all_put : (first other end k : ℕ) (xs : List ℕ) (n v : ℕ) → end ≤ k → (end < k → k ≡ first) → v ≡ with_put first other k xs n → v ≡ with_put first other end xs n
all_put first other end k xs n v behind fits = grind (arith, nat_tests)

pub one_more_put : (first other k : ℕ) (xs ys : List ℕ) (n : ℕ) → first ≤ k → k < length ys → get_or ys n n ≡ with_put first other k xs n
    → get_or (set ys k ((k - first) + other)) n n ≡ with_put first other (k + 1) xs n
one_more_put first other k xs ys n = grind (arith, nat_tests, get_or-set_at, get_or-set_other, cases_eq n k)

-- ---- the header in front of others

pub settled_before : (ts : List Taken) (i : ℕ) (t : Taken) (n : ℕ) → i < length ts
    → settled (drop i ts) n ≡ cond (is_taken n (get_or ts i t)) ((n - (get_or ts i t).first) + (get_or ts i t).other) (settled (drop (i + 1) ts) n)
settled_before ts i t n inside = ap (λ us. settled us n) (drop_more ts i t inside)
