-- Numbers of a store.
use Rattle.std.specs.Prelude.{◌≤◌, ℕ, List, slice_index}

-- each is one of so many
abbrev pub AreWithin : ℕ → List ℕ → Type 0
AreWithin size numbers = (k : ℕ) → slice_index numbers k ≤ size
