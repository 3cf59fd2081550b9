-- Literals. (IEEE 1076, lexical elements; literals; physical types.)
use Rattle.std.specs.Prelude.{ℕ, suc, ◌+◌, ◌-◌, ◌*◌, nat_lt, pos, List, [], ◌∷◌, map, Ok, bytes_eq, codes, if◌then◌else◌}
use Rattle.vd_values.specs.declared.scalar.Scalar.{Scalar}
use Rattle.vd_values.specs.declared.scalar.Scalar.TheVariants.{Integer, Literal, Time}
use Rattle.vd_values.specs.declared.scalar.StopKind.TheVariants.{Overflow}
use Rattle.vd_values.specs.Times.{greatest_time}
use Rattle.vd_composites.specs.Stops.{◌>>=◌}
use Rattle.vd_composites.specs.Composites.{Value, One, items_of}
use Rattle.vd_composites.specs.Subtypes.{Subtype}
use Rattle.vd_composites.specs.Concatenations.{positional}
use Rattle.vd_environments.specs.Got.{Got, got, stop, senseless, all_got}
use Rattle.vd_environments.specs.Environments.{Make, element_make, literals_of}

-- a decimal number
abbrev pub number_from : ℕ → List ℕ → ℕ
number_from n [] = n
number_from n (c ∷ cs) = number_from (n * 10 + (c - 48)) cs

abbrev pub number : List ℕ → ℕ
number digits = number_from 0 digits

-- An abstract literal is a value of INTEGER. The rules of the lexis keep it within it.
abbrev pub integer : ℕ → Value Scalar
integer n = One (Integer (pos n))

-- ---- physical literals: so many units, each of so many femtoseconds

abbrev pub units : List (List ℕ × ℕ)
units =
    (codes "fs", 1) ∷ (codes "ps", 1000) ∷ (codes "ns", 1000000) ∷ (codes "us", 1000000000) ∷ (codes "ms", 1000000000000)
    ∷ (codes "sec", 1000000000000000) ∷ (codes "min", 60000000000000000) ∷ (codes "hr", 3600000000000000000) ∷ []

abbrev pub unit_in : List (List ℕ × ℕ) → List ℕ → Got ℕ
unit_in [] name = senseless
unit_in (u ∷ us) name = if bytes_eq u.0 name then Ok u.1 else unit_in us name

abbrev pub time_of : ℕ → Got (Value Scalar)
time_of t = if nat_lt greatest_time t then stop Overflow else Ok (One (Time t))

abbrev pub physical : List ℕ → List ℕ → Got (Value Scalar)
physical digits unit = unit_in units unit >>= λ n. time_of (number digits * n)

-- ---- string and bit string literals: the positional aggregates of their characters

-- the position of a literal among those of a type
abbrev pub position_from : ℕ → List (List ℕ) → List ℕ → Got ℕ
position_from n [] name = senseless
position_from n (l ∷ ls) name = if bytes_eq l name then Ok n else position_from (suc n) ls name

-- a character as a literal stands between apostrophes (39)
abbrev pub character : ℕ → List ℕ
character c = 39 ∷ c ∷ 39 ∷ []

abbrev pub literals_at : List ℕ → List (Value Scalar)
literals_at ns = map (λ n. One (Literal n)) ns

abbrev pub string : Subtype → Make → List ℕ → Got (Value Scalar)
string s make characters =
    all_got (map (λ c. position_from 0 (literals_of (element_make make)) (character c)) characters) >>= λ ns.
    got (positional s (items_of (literals_at ns)))
