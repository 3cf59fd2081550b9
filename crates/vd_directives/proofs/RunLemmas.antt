-- Bytes of a kind are counted from the front.
use Rattle.std.proofs.Common.{◌≡◌, ℕ, ◌+◌, Bool, true, false, List, [], ◌∷◌, length, refl, ap, ◌∙◌, arith}
use Rattle.vd_directives.specs.Pieces.{run_length}

pub run_more : (is_one : ℕ → Bool) (rest after : List ℕ) (b n total : ℕ) → rest ≡ b ∷ after → is_one b ≡ true → total ≡ n + run_length is_one rest
    → total ≡ n + 1 + run_length is_one after
run_more is_one rest after b n total split is so_far =
    let e : run_length is_one rest ≡ run_length is_one after + 1 = ap (run_length is_one) split ∙ rw is refl in
    omega (arith, so_far, e)

pub run_stops : (is_one : ℕ → Bool) (rest after : List ℕ) (b n total : ℕ) → rest ≡ b ∷ after → is_one b ≡ false → total ≡ n + run_length is_one rest
    → n ≡ total
run_stops is_one rest after b n total split is so_far =
    let e : run_length is_one rest ≡ 0 = ap (run_length is_one) split ∙ rw is refl in
    omega (arith, so_far, e)

pub run_ends : (is_one : ℕ → Bool) (rest : List ℕ) (n total : ℕ) → length rest ≡ 0 → total ≡ n + run_length is_one rest → n ≡ total
run_ends is_one [] n total none so_far = omega (arith, so_far)
run_ends is_one (b ∷ bs) n total none so_far = absurd (omega arith)

pub ruleset run_steps = (run_more, run_stops, run_ends)
