-- Which symbols can stand side by side in the texts of a grammar.
use Rattle.std.specs.Prelude.{◌≡◌, ℕ, Bool, true, not, ◌&&◌, ◌||◌, List, [], ◌∷◌}
use Rattle.std.specs.List.{list_all}
use Rattle.vd_gram.specs.declared.tables.Production.{Production}
use Rattle.vd_gram.specs.declared.tables.Table.{Table}
use Rattle.vd_gram.specs.Claims.{is_terminal, firsts_of, follow_of, can_all_be_empty}

-- each two symbols side by side pass a test
abbrev pub ArePairs : (ℕ → ℕ → Bool) → List ℕ → Type 0
ArePairs ok [] = Unit {0}
ArePairs ok (a ∷ []) = Unit {0}
ArePairs ok (a ∷ b ∷ cs) = (ok a b ≡ true) × ArePairs ok (b ∷ cs)

-- a terminal in front of these symbols passes the test with all that can stand behind it, where `after` can stand behind them
abbrev pub fits_before : Table → (ℕ → ℕ → Bool) → List ℕ → ℕ → List ℕ → Bool
fits_before t ok after s ss =
    not (is_terminal t s) || (list_all (ok s) (firsts_of t ss) && (not (can_all_be_empty t ss) || list_all (ok s) after))

abbrev pub pairs_fit : Table → (ℕ → ℕ → Bool) → List ℕ → List ℕ → Bool
pairs_fit t ok after [] = true
pairs_fit t ok after (s ∷ ss) = fits_before t ok after s ss && pairs_fit t ok after ss

-- the same for each right side of the productions
abbrev pub all_pairs_fit : Table → (ℕ → ℕ → Bool) → Bool
all_pairs_fit t ok = list_all (λ (p : Production). pairs_fit t ok (follow_of t p.left) p.right.now) t.productions.now
