-- Pairs of two lists, one by one. No name has a dash, so that a caller can name each in `#[tactic(auto, using(..))]`.
use Rattle.std.proofs.Common.{◌≡◌, ◌<◌, ◌≤◌, ◌+◌, ◌++◌, ℕ, zero, suc, List, [], ◌∷◌, length, get_or, take, min, refl, ap, ◌∙◌, arith}
use Rattle.std.proofs.lemmas.List.{take_all}
use Rattle.vd_meaning.specs.Tables.{pairs}

pub pairs_more : (ms ns : List ℕ) (i : ℕ) → i < length ms → i < length ns
    → take (i + 1) (pairs ms ns) ≡ take i (pairs ms ns) ++ (get_or ms i 0, get_or ns i 0) ∷ []
pairs_more [] ns i within_ms within_ns = absurd (omega arith)
pairs_more (m ∷ ms) [] i within_ms within_ns = absurd (omega arith)
pairs_more (m ∷ ms) (n ∷ ns) zero within_ms within_ns = refl
pairs_more (m ∷ ms) (n ∷ ns) (suc i) within_ms within_ns =
    let one : suc i + 1 ≡ suc (i + 1) = omega arith in
    ap (λ k. take k (pairs (m ∷ ms) (n ∷ ns))) one ∙ ap (λ ps. (m, n) ∷ ps) (pairs_more ms ns i (omega arith) (omega arith))

length_pairs : (ms ns : List ℕ) → length (pairs ms ns) ≡ min (length ms) (length ns)
length_pairs [] ns = omega arith
length_pairs (m ∷ ms) [] = omega arith
length_pairs (m ∷ ms) (n ∷ ns) = omega (arith, length_pairs ms ns)

pub pairs_all : (ms ns : List ℕ) (i : ℕ) → min (length ms) (length ns) ≤ i → take i (pairs ms ns) ≡ pairs ms ns
pairs_all ms ns i behind = take_all i (pairs ms ns) (omega (arith, length_pairs ms ns))
