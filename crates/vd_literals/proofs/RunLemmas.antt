-- How far a run goes on.
use Rattle.std.proofs.Common.{◌≡◌, ℕ, suc, ◌+◌, ◌-◌, ◌<◌, ◌≤◌, Bool, true, false, cond, eqb, ◌&&◌, ◌||◌, List, [], ◌∷◌, length, take, drop, get_or, slice_index, refl, sym, ap, ◌∙◌, subst, arith}
use Rattle.std.proofs.lemmas.Bool.{cond-true, cond-false}
use Rattle.std.proofs.lemmas.List.{at_drop_all, drop_more}
use Rattle.vd_literals.specs.Runs.{is_part, goes_on, more_length, run_length}

pub more-more : (t : Bool) (xs : List ℕ) (n : ℕ) → n < length xs → goes_on t (drop n xs) ≡ true → more_length t (drop n xs) ≡ 1 + more_length t (drop (n + 1) xs)
more-more t xs n h e =
    let s = drop_more xs n 0 h in
    let first : goes_on t (get_or xs n 0 ∷ drop (n + 1) xs) ≡ true = rw s at e in
    ap (more_length t) s ∙ cond-true (goes_on t (get_or xs n 0 ∷ drop (n + 1) xs)) (1 + more_length t (drop (n + 1) xs)) 0 first

pub more-stop : (t : Bool) (bs : List ℕ) → goes_on t bs ≡ false → more_length t bs ≡ 0
more-stop t [] e = refl
more-stop t (b ∷ bs) e = cond-false (goes_on t (b ∷ bs)) (1 + more_length t bs) 0 e

pub more-all : (t : Bool) (xs : List ℕ) (n : ℕ) → length xs ≤ n → more_length t (drop n xs) ≡ 0
more-all t xs n h = at_drop_all (more_length t) xs n h

pub more-within : (t : Bool) (bs : List ℕ) → more_length t bs ≤ length bs
more-within t [] = omega arith
more-within t (b ∷ bs) = by (goes_on t (b ∷ bs)) (more-within t bs)
  where
    by : (u : Bool) → more_length t bs ≤ length bs → cond u (1 + more_length t bs) 0 ≤ suc (length bs)
    by true h = omega arith
    by false h = omega arith

pub run-within : (t : Bool) (bs : List ℕ) → run_length t bs ≤ length bs
run-within t [] = omega arith
run-within t (b ∷ bs) = by (is_part t b) (more-within t bs)
  where
    by : (u : Bool) → more_length t bs ≤ length bs → cond u (1 + more_length t bs) 0 ≤ suc (length bs)
    by true h = omega arith
    by false h = omega arith

pub run-none : (t : Bool) (bs : List ℕ) → 0 < length bs → is_part t (slice_index bs 0) ≡ false → run_length t bs ≡ 0
run-none t [] h e = refl
run-none t (b ∷ bs) h e = cond-false (is_part t b) (1 + more_length t bs) 0 e

pub run-some : (t : Bool) (bs : List ℕ) → 0 < length bs → is_part t (slice_index bs 0) ≡ true → run_length t bs ≡ 1 + more_length t (drop 1 bs)
run-some t [] h e = absurd (omega arith)
run-some t (b ∷ bs) h e = cond-true (is_part t b) (1 + more_length t bs) 0 e

pub run-nil : (t : Bool) (bs : List ℕ) → length bs ≡ 0 → run_length t bs ≡ 0
run-nil t [] h = refl
run-nil t (b ∷ bs) h = absurd (omega arith)
