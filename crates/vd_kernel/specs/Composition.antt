-- The join of two designs through a third one, which stands between them.
use Rattle.std.specs.Prelude.{◌≡◌, ℕ}

-- a signal of the design between joins both
abbrev pub Through : (ℕ → ℕ → Type 0) → (ℕ → ℕ → Type 0) → ℕ → ℕ → Type 0
Through first second i k = (j : ℕ) × first i j × second j k

-- A signal of the design between joins one signal of the first design at most, which back gives; and it joins that one if it joins any
-- of the last. So what the outside does to the outer designs says what it does to the one between.
pub record LeadsBack (back : ℕ → ℕ) (first second : ℕ → ℕ → Type 0) : Type 0 where
  pub is_one : (i j : ℕ) → first i j → back j ≡ i
  pub joins : (j k : ℕ) → second j k → first (back j) j

-- two joins that join the same
pub record JoinsTheSame (first second : ℕ → ℕ → Type 0) : Type 0 where
  pub forth : (i j : ℕ) → first i j → second i j
  pub back : (i j : ℕ) → second i j → first i j
