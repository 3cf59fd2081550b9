-- Calls that are counted, of which some are to fail.
use Rattle.std.specs.Prelude.{ℕ, ◌+◌, ◌-◌, ◌^◌, min, List, Contains}

-- how many calls were made, and the numbers, from 1, of those that fail
pub record Numbers : Type 0 where
  pub made : ℕ
  pub failing : List ℕ

-- no call was made yet
abbrev pub before_calls : List ℕ → Numbers
before_calls failing = record { made = 0; failing = failing }

-- the number of the call after n calls; the last number of its type stands for every later call
abbrev pub next_number : ℕ → ℕ
next_number n = min (n + 1) (2 ^ 64 - 1)

-- the next call is to fail
abbrev pub IsDue : Numbers → Type 0
IsDue calls = Contains calls.failing (next_number calls.made)

-- one more call was made
abbrev pub after_call : Numbers → Numbers
after_call calls = record calls { made = next_number calls.made }
