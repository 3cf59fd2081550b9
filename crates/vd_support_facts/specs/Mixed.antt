-- What the functions of the support package for an array and a scalar give: the operator on each element. Of STD_ULOGIC the result has the bounds 1 to n,
-- of BIT those of the array.
use Rattle.std.specs.Prelude.{ℕ, List, [], ◌∷◌, codes}
use Rattle.vd_composites.specs.Composites.{Value}
use Rattle.vd_values.specs.declared.scalar.Scalar.{Scalar}
use Rattle.vd_vectors.specs.declared.logics.LogicType.TheVariants.{TwoValued, NineValued}
use Rattle.vd_vectors.specs.declared.logical.LogicalOperator.TheVariants.{And, Or, Xor}
use Rattle.vd_operators.specs.declared.op.Op.TheVariants.{Binary}
use Rattle.vd_operators.specs.declared.op.BinaryOp.TheVariants.{Logical}
use Rattle.vd_support_facts.specs.MixedBodies.{vd_and_vs, vd_or_vs, vd_xor_vs}
use Rattle.vd_support_facts.specs.MixedBodies.{vd_and_sv, vd_or_sv, vd_xor_sv}
use Rattle.vd_support_facts.specs.MixedBitBodies.{vd_band_vs, vd_bor_vs, vd_bxor_vs}
use Rattle.vd_support_facts.specs.MixedBitBodies.{vd_band_sv, vd_bor_sv, vd_bxor_sv}
use Rattle.vd_support_facts.specs.Calls.{Agree, Case, gives, logic, logics, bit, bits, upto, downto, nothing_from_zero, nothing_at_the_least}

-- an array and a scalar, or the other way round
abbrev pub turned_round : List (Value Scalar) → List (Value Scalar)
turned_round (x ∷ y ∷ []) = y ∷ x ∷ []
turned_round vs = vs

abbrev pub turned : List Case → List Case
turned [] = []
turned (c ∷ cs) = record { arguments = turned_round c.arguments; given = c.given } ∷ turned cs

abbrev pub conjunctions : List Case
conjunctions =
    gives (logics nothing_from_zero [] ∷ logic (codes "1") ∷ []) (logics (upto 1 0) [])
    ∷ gives (logics nothing_at_the_least [] ∷ logic (codes "1") ∷ []) (logics (upto 1 0) [])
    ∷ gives (logics (upto 4 4) (codes "1") ∷ logic (codes "Z") ∷ []) (logics (upto 1 1) (codes "X"))
    ∷ gives (logics (downto 5 3) (codes "0H-") ∷ logic (codes "1") ∷ []) (logics (upto 1 3) (codes "01X"))
    ∷ gives (logics (downto 5 3) (codes "LU1") ∷ logic (codes "U") ∷ []) (logics (upto 1 3) (codes "0UU"))
    ∷ gives (logics (upto 0 2) (codes "UX1") ∷ logic (codes "L") ∷ []) (logics (upto 1 3) (codes "000")) ∷ []

abbrev pub disjunctions : List Case
disjunctions =
    gives (logics nothing_from_zero [] ∷ logic (codes "1") ∷ []) (logics (upto 1 0) [])
    ∷ gives (logics nothing_at_the_least [] ∷ logic (codes "1") ∷ []) (logics (upto 1 0) [])
    ∷ gives (logics (upto 4 4) (codes "0") ∷ logic (codes "Z") ∷ []) (logics (upto 1 1) (codes "X"))
    ∷ gives (logics (downto 5 3) (codes "0H-") ∷ logic (codes "0") ∷ []) (logics (upto 1 3) (codes "01X"))
    ∷ gives (logics (downto 5 3) (codes "HU0") ∷ logic (codes "U") ∷ []) (logics (upto 1 3) (codes "1UU"))
    ∷ gives (logics (upto 0 2) (codes "UX0") ∷ logic (codes "H") ∷ []) (logics (upto 1 3) (codes "111")) ∷ []

abbrev pub exclusions : List Case
exclusions =
    gives (logics nothing_from_zero [] ∷ logic (codes "1") ∷ []) (logics (upto 1 0) [])
    ∷ gives (logics nothing_at_the_least [] ∷ logic (codes "1") ∷ []) (logics (upto 1 0) [])
    ∷ gives (logics (upto 4 4) (codes "0") ∷ logic (codes "Z") ∷ []) (logics (upto 1 1) (codes "X"))
    ∷ gives (logics (downto 5 3) (codes "0H-") ∷ logic (codes "1") ∷ []) (logics (upto 1 3) (codes "10X"))
    ∷ gives (logics (downto 5 3) (codes "1UW") ∷ logic (codes "U") ∷ []) (logics (upto 1 3) (codes "UUU"))
    ∷ gives (logics (upto 0 2) (codes "L1U") ∷ logic (codes "L") ∷ []) (logics (upto 1 3) (codes "01U")) ∷ []

-- of BIT: "101" with '0' and with '1'
abbrev pub of_bits : (with_0 with_1 : List ℕ) → List Case
of_bits with_0 with_1 =
    gives (bits nothing_from_zero [] ∷ bit (codes "1") ∷ []) (bits nothing_from_zero [])
    ∷ gives (bits nothing_at_the_least [] ∷ bit (codes "1") ∷ []) (bits nothing_at_the_least [])
    ∷ gives (bits (downto 2 3) [] ∷ bit (codes "0") ∷ []) (bits (downto 2 3) [])
    ∷ gives (bits (upto 4 4) (codes "0") ∷ bit (codes "0") ∷ []) (bits (upto 4 4) (codes "0"))
    ∷ gives (bits (downto 5 3) (codes "101") ∷ bit (codes "0") ∷ []) (bits (downto 5 3) with_0)
    ∷ gives (bits (upto 1 3) (codes "101") ∷ bit (codes "1") ∷ []) (bits (upto 1 3) with_1) ∷ []

pub record MixedFacts : Type 0 where
  pub and_vs : Agree (vd_and_vs ∷ []) (Binary (Logical And NineValued)) conjunctions
  pub or_vs : Agree (vd_or_vs ∷ []) (Binary (Logical Or NineValued)) disjunctions
  pub xor_vs : Agree (vd_xor_vs ∷ []) (Binary (Logical Xor NineValued)) exclusions
  pub and_sv : Agree (vd_and_sv ∷ []) (Binary (Logical And NineValued)) (turned conjunctions)
  pub or_sv : Agree (vd_or_sv ∷ []) (Binary (Logical Or NineValued)) (turned disjunctions)
  pub xor_sv : Agree (vd_xor_sv ∷ []) (Binary (Logical Xor NineValued)) (turned exclusions)

pub record BitMixedFacts : Type 0 where
  pub and_vs : Agree (vd_band_vs ∷ []) (Binary (Logical And TwoValued)) (of_bits (codes "000") (codes "101"))
  pub or_vs : Agree (vd_bor_vs ∷ []) (Binary (Logical Or TwoValued)) (of_bits (codes "101") (codes "111"))
  pub xor_vs : Agree (vd_bxor_vs ∷ []) (Binary (Logical Xor TwoValued)) (of_bits (codes "101") (codes "010"))
  pub and_sv : Agree (vd_band_sv ∷ []) (Binary (Logical And TwoValued)) (turned (of_bits (codes "000") (codes "101")))
  pub or_sv : Agree (vd_bor_sv ∷ []) (Binary (Logical Or TwoValued)) (turned (of_bits (codes "101") (codes "111")))
  pub xor_sv : Agree (vd_bxor_sv ∷ []) (Binary (Logical Xor TwoValued)) (turned (of_bits (codes "101") (codes "010")))
