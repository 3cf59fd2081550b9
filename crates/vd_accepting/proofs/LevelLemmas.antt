-- Trees side by side, one after the other. No name has a dash, so that a caller can name each in `#[tactic(auto, using(..))]`.
use Rattle.std.proofs.Common.{◌+◌, ◌-◌, ◌<◌, ◌≤◌, ◌≡◌, ◌∙◌, ◌∷◌, List, [], ap, arith, drop, length, refl, suc, zero, ℕ}
use Rattle.vd_contexts.specs.Standing.{standings_in}
use Rattle.vd_contexts.specs.declared.standings.Standing.{Standing}
use Rattle.vd_value_rules.specs.Designs.{Design}
use Rattle.vd_value_rules.specs.Standings.{further_standings}

module _ (d : Design) where
  behind_tree : (n : ℕ) (xs : List Standing) → n + 1 < length xs → standings_in d (drop (suc n) xs) ≡ further_standings (standings_in d (drop n xs))
  behind_tree zero [] less = absurd (no less)
    where
      no : 0 + 1 < 0 → ⊥
      no e = omega (arith, e)
  behind_tree zero (x ∷ []) less = absurd (no less)
    where
      no : 0 + 1 < 1 → ⊥
      no e = omega (arith, e)
  behind_tree zero (x ∷ y ∷ ys) less = refl
  behind_tree (suc n) [] less = absurd (no less)
    where
      no : suc n + 1 < 0 → ⊥
      no e = omega (arith, e)
  behind_tree (suc n) (x ∷ xs) less = behind_tree n xs (omega (arith, less))

  pub next_is : (n m left : ℕ) (xs : List Standing) → m ≡ n + 1 → left ≡ length xs - n → 1 < left
      → standings_in d (drop m xs) ≡ further_standings (standings_in d (drop n xs))
  next_is n m left xs is left_is long =
      let one : m ≡ suc n = omega (arith, is) in
      let inside : n + 1 < length xs = omega (arith, left_is, long) in
      ap (λ k. standings_in d (drop k xs)) one ∙ behind_tree n xs inside

  pub last_stays : (n : ℕ) (xs : List Standing) → length xs ≤ n + 1 → standings_in d (drop n xs) ≡ further_standings (standings_in d (drop n xs))
  last_stays zero [] most = refl
  last_stays zero (x ∷ []) most = refl
  last_stays zero (x ∷ y ∷ ys) most = absurd (no most)
    where
      no : suc (suc (length ys)) ≤ 0 + 1 → ⊥
      no e = omega (arith, e)
  last_stays (suc n) [] most = refl
  last_stays (suc n) (x ∷ xs) most = last_stays n xs (omega (arith, most))
