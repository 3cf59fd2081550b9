-- Numbers that stop at the greatest one of 64 bits.
use Rattle.std.specs.Prelude.{ℕ, nat_lt, if◌then◌else◌}

-- the number, or the greatest one of 64 bits where the number is greater
unfoldable pub at_most : ℕ → ℕ
at_most n = if nat_lt n 18446744073709551616 then n else 18446744073709551615
