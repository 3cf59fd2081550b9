-- What the reductions of the support package give: the elements taken together from the value of none.
use Rattle.std.specs.Prelude.{List, [], ◌∷◌, codes}
use Rattle.vd_vectors.specs.declared.logics.LogicType.TheVariants.{TwoValued, NineValued}
use Rattle.vd_vectors.specs.declared.logical.LogicalOperator.TheVariants.{And, Or, Xor}
use Rattle.vd_operators.specs.declared.op.Op.TheVariants.{Unary}
use Rattle.vd_operators.specs.declared.op.UnaryOp.TheVariants.{Reduction}
use Rattle.vd_support_facts.specs.ReductionBodies.{vd_rand, vd_ror1, vd_rxor}
use Rattle.vd_support_facts.specs.ReductionBodies.{vd_brand, vd_bror, vd_brxor}
use Rattle.vd_support_facts.specs.Calls.{Agree, Case, gives, logic, logics, bit, bits, upto, downto, nothing_from_zero, nothing_at_the_least}

abbrev pub conjunctions : List Case
conjunctions =
    gives (logics nothing_from_zero [] ∷ []) (logic (codes "1"))
    ∷ gives (logics nothing_at_the_least [] ∷ []) (logic (codes "1"))
    ∷ gives (logics (downto 0 0) (codes "Z") ∷ []) (logic (codes "X"))
    ∷ gives (logics (downto 0 0) (codes "H") ∷ []) (logic (codes "1"))
    ∷ gives (logics (downto 4 2) (codes "1H1") ∷ []) (logic (codes "1"))
    ∷ gives (logics (upto 1 3) (codes "1LU") ∷ []) (logic (codes "0"))
    ∷ gives (logics (upto 1 3) (codes "1UZ") ∷ []) (logic (codes "U"))
    ∷ gives (logics (upto 1 3) (codes "1-1") ∷ []) (logic (codes "X")) ∷ []

abbrev pub disjunctions : List Case
disjunctions =
    gives (logics nothing_from_zero [] ∷ []) (logic (codes "0"))
    ∷ gives (logics nothing_at_the_least [] ∷ []) (logic (codes "0"))
    ∷ gives (logics (downto 0 0) (codes "Z") ∷ []) (logic (codes "X"))
    ∷ gives (logics (downto 0 0) (codes "L") ∷ []) (logic (codes "0"))
    ∷ gives (logics (downto 4 2) (codes "0L0") ∷ []) (logic (codes "0"))
    ∷ gives (logics (upto 1 3) (codes "0HU") ∷ []) (logic (codes "1"))
    ∷ gives (logics (upto 1 3) (codes "0UZ") ∷ []) (logic (codes "U"))
    ∷ gives (logics (upto 1 3) (codes "0-0") ∷ []) (logic (codes "X")) ∷ []

abbrev pub exclusions : List Case
exclusions =
    gives (logics nothing_from_zero [] ∷ []) (logic (codes "0"))
    ∷ gives (logics nothing_at_the_least [] ∷ []) (logic (codes "0"))
    ∷ gives (logics (downto 0 0) (codes "Z") ∷ []) (logic (codes "X"))
    ∷ gives (logics (downto 0 0) (codes "H") ∷ []) (logic (codes "1"))
    ∷ gives (logics (downto 4 2) (codes "1H1") ∷ []) (logic (codes "1"))
    ∷ gives (logics (upto 1 3) (codes "1HL") ∷ []) (logic (codes "0"))
    ∷ gives (logics (upto 1 3) (codes "1UZ") ∷ []) (logic (codes "U"))
    ∷ gives (logics (upto 1 3) (codes "1W1") ∷ []) (logic (codes "X")) ∷ []

-- of an empty array, of one element, and of three
abbrev pub of_bits : (none first second third : List Rattle.std.specs.Prelude.ℕ) → List Case
of_bits none first second third =
    gives (bits nothing_from_zero [] ∷ []) (bit none)
    ∷ gives (bits nothing_at_the_least [] ∷ []) (bit none)
    ∷ gives (bits (downto 0 0) (codes "0") ∷ []) (bit (codes "0"))
    ∷ gives (bits (downto 0 0) (codes "1") ∷ []) (bit (codes "1"))
    ∷ gives (bits (downto 4 2) (codes "111") ∷ []) (bit first)
    ∷ gives (bits (upto 1 3) (codes "101") ∷ []) (bit second)
    ∷ gives (bits (upto 1 3) (codes "000") ∷ []) (bit third) ∷ []

pub record ReductionFacts : Type 0 where
  pub conjunctions : Agree (vd_rand ∷ []) (Unary (Reduction And NineValued)) conjunctions
  pub disjunctions : Agree (vd_ror1 ∷ []) (Unary (Reduction Or NineValued)) disjunctions
  pub exclusions : Agree (vd_rxor ∷ []) (Unary (Reduction Xor NineValued)) exclusions

pub record BitReductionFacts : Type 0 where
  pub conjunctions : Agree (vd_brand ∷ []) (Unary (Reduction And TwoValued)) (of_bits (codes "1") (codes "1") (codes "0") (codes "0"))
  pub disjunctions : Agree (vd_bror ∷ []) (Unary (Reduction Or TwoValued)) (of_bits (codes "0") (codes "1") (codes "1") (codes "0"))
  pub exclusions : Agree (vd_brxor ∷ []) (Unary (Reduction Xor TwoValued)) (of_bits (codes "0") (codes "1") (codes "0") (codes "0"))
