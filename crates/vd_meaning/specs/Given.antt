-- What the marks of `std.standard` and `ieee.std_logic_1164` stand for in each design. (IEEE 1076, predefined language environment; IEEE 1164.)
use Rattle.std.specs.Prelude.{◌≡◌, ℕ, ◌==◌, pos, true, false, Bool, List, [], ◌∷◌, length, None, codes, if◌then◌else◌}
use Rattle.vd_values.specs.declared.scalar.Scalar.{Scalar}
use Rattle.vd_trees.specs.declared.revision.Revision.TheVariants.{V2019, V1993}
use Rattle.vd_composites.specs.declared.ranges.Bounds.{Bounds}
use Rattle.vd_composites.specs.declared.scalars.ScalarType.{ScalarType}
use Rattle.vd_composites.specs.declared.scalars.ScalarType.TheVariants.{Integers, Enumeration, Times}
use Rattle.vd_composites.specs.declared.scalars.ScalarSubtype.{ScalarSubtype}
use Rattle.vd_composites.specs.Scalars.{whole_range}
use Rattle.vd_composites.specs.Subtypes.{Scalars, Arrays}
use Rattle.vd_kernel.specs.Models.{View}
use Rattle.vd_predefined.specs.declared.numbers.TheConstants.{BOOLEAN, BIT, CHARACTER, SEVERITY_LEVEL, INTEGER, TIME, DELAY_LENGTH, NATURAL, POSITIVE, STRING, BIT_VECTOR, STD_ULOGIC, STD_ULOGIC_VECTOR, STD_LOGIC, STD_LOGIC_VECTOR, X01, X01Z, UX01, UX01Z}
use Rattle.vd_predefined.specs.Given.{given_scopes}
use Rattle.vd_predefined.specs.Table.{characters}
use Rattle.vd_environments.specs.Environments.{always, OfScalar, OfElements, Denotation, nothing_denoted, no_subtype, Env, Indicated}
use Rattle.vd_meaning.specs.Tables.{given_count}

-- ---- subtypes of scalars

abbrev pub ranged : ScalarType → Bounds → ScalarSubtype
ranged t b = record { of_type = t; range = b }

abbrev pub whole : ScalarType → ScalarSubtype
whole t = ranged t (whole_range t)

abbrev pub scalars : ScalarSubtype → List (List ℕ) → Bool → Indicated
scalars s literals resolved =
    record { subtype = Scalars s; make = OfScalar (record { literals = literals; is_resolved = resolved }) always }

abbrev pub enumeration : ℕ → List (List ℕ) → Indicated
enumeration n literals = scalars (whole (Enumeration n)) literals false

abbrev pub truths : List (List ℕ)
truths = codes "false" ∷ codes "true" ∷ []

abbrev pub bits : List (List ℕ)
bits = codes "'0'" ∷ codes "'1'" ∷ []

abbrev pub severities : List (List ℕ)
severities = codes "note" ∷ codes "warning" ∷ codes "error" ∷ codes "failure" ∷ []

abbrev pub logics : List (List ℕ)
logics =
    codes "'U'" ∷ codes "'X'" ∷ codes "'0'" ∷ codes "'1'" ∷ codes "'Z'" ∷ codes "'W'" ∷ codes "'L'" ∷ codes "'H'" ∷ codes "'-'" ∷ []

-- whole numbers from one on
abbrev pub numbers_from : ℕ → ScalarSubtype
numbers_from n = ranged Integers (record { left = pos n; right = pos 2147483647; down = false })

-- STD_ULOGIC from one position to another, resolved
abbrev pub resolved : ℕ → ℕ → Indicated
resolved m n = scalars (ranged (Enumeration 9) (record { left = pos m; right = pos n; down = false })) logics true

-- ---- arrays of any bounds

abbrev pub arrays : ScalarSubtype → Indicated → Indicated
arrays index element = record { subtype = Arrays index None element.subtype; make = OfElements [] always element.make }

-- ---- the marks by their numbers. STD_LOGIC_VECTOR has resolved elements in both revisions: in 2019 as a subtype, in 1993 as a type of its own.

abbrev pub marks : List (ℕ × Indicated)
marks =
    (BOOLEAN, enumeration 2 truths)
    ∷ (BIT, enumeration 2 bits)
    ∷ (CHARACTER, enumeration 128 characters)
    ∷ (SEVERITY_LEVEL, enumeration 4 severities)
    ∷ (INTEGER, scalars (whole Integers) [] false)
    ∷ (TIME, scalars (whole Times) [] false)
    ∷ (DELAY_LENGTH, scalars (whole Times) [] false)
    ∷ (NATURAL, scalars (numbers_from 0) [] false)
    ∷ (POSITIVE, scalars (numbers_from 1) [] false)
    ∷ (STRING, arrays (numbers_from 1) (enumeration 128 characters))
    ∷ (BIT_VECTOR, arrays (numbers_from 0) (enumeration 2 bits))
    ∷ (STD_ULOGIC, enumeration 9 logics)
    ∷ (STD_ULOGIC_VECTOR, arrays (numbers_from 0) (enumeration 9 logics))
    ∷ (STD_LOGIC, resolved 0 8)
    ∷ (STD_LOGIC_VECTOR, arrays (numbers_from 0) (resolved 0 8))
    ∷ (X01, resolved 1 3)
    ∷ (X01Z, resolved 1 4)
    ∷ (UX01, resolved 0 3)
    ∷ (UX01Z, resolved 0 4)
    ∷ []

abbrev pub denoted_in : List (ℕ × Indicated) → ℕ → Denotation
denoted_in [] n = nothing_denoted
denoted_in (m ∷ ms) n =
    if m.0 == n then record nothing_denoted { subtype = m.1.subtype; make = m.1.make } else denoted_in ms n

-- ---- what is seen in elaboration: each signal at its initial value, and no event

abbrev pub elaborating : (ℕ → Scalar) → View
elaborating initial = record { time = 0; value = initial; shown = initial; before = λ _. None }

-- the environment of all units, where signals have these initial values
abbrev pub given_env : (ℕ → Scalar) → Env
given_env initial =
    record { denotes = denoted_in marks; drivers = λ _. None; view = elaborating initial; is_inside = false; result = no_subtype }

-- so many declarations are given
pub record GivenCounted : Type 0 where
  pub in_2019 : length (given_scopes V2019).entered ≡ given_count V2019
  pub in_1993 : length (given_scopes V1993).entered ≡ given_count V1993
