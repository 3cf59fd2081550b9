-- What the functions of the support package for conditions and matching give. Each case is read off the sentences of the language.
use Rattle.std.specs.Prelude.{◌≡◌, true, List, [], ◌∷◌, codes}
use Rattle.vd_values.specs.declared.scalar.StopKind.TheVariants.{Length}
use Rattle.vd_vectors.specs.declared.logics.LogicType.TheVariants.{TwoValued, NineValued}
use Rattle.vd_vectors.specs.declared.orders.Relation.TheVariants.{IsLess, IsAtMost, IsGreater, IsAtLeast}
use Rattle.vd_operators.specs.declared.op.Op.TheVariants.{Unary, Binary}
use Rattle.vd_operators.specs.declared.op.UnaryOp.TheVariants.{Condition}
use Rattle.vd_operators.specs.declared.op.BinaryOp.TheVariants.{Matching, MatchingOrder}
use Rattle.vd_operators.specs.Support.{characters}
use Rattle.vd_support_facts.specs.MatchingBodies.{vd_cond, vd_eq, vd_eqv, vd_eqb, vd_eqbv}
use Rattle.vd_support_facts.specs.MatchingBodies.{vd_ltb, vd_leb, vd_gtb, vd_geb, vd_dash}
use Rattle.vd_support_facts.specs.Calls.{Agree, Case, gives, stops, for_each, rows_of, for_bits, of_text, results, logic, logics, bit, bits, yes, no, upto, downto, nothing_from_zero, nothing_at_the_least}

-- ---- `??`: '1' and 'H' hold

abbrev pub conditions : List Case
conditions = for_each characters (no ∷ no ∷ no ∷ yes ∷ no ∷ no ∷ no ∷ yes ∷ no ∷ [])

-- ---- `?=` of STD_ULOGIC: '1' where either is '-', else 'U' where either is 'U', else by the logical values, and 'X' where one has none

abbrev pub matches : List Case
matches =
    rows_of characters (codes "UUUUUUUU1" ∷ codes "UXXXXXXX1" ∷ codes "UX10XX101" ∷ codes "UX01XX011" ∷ codes "UXXXXXXX1" ∷ codes "UXXXXXXX1"
    ∷ codes "UX10XX101" ∷ codes "UX01XX011" ∷ codes "111111111" ∷ [])

-- ---- `?=` of vectors: the `and` of the elements' results, '1' of none

abbrev pub vector_matches : List Case
vector_matches =
    gives (logics nothing_from_zero [] ∷ logics (downto 7 8) [] ∷ []) (logic (codes "1"))
    ∷ gives (logics nothing_at_the_least [] ∷ logics nothing_from_zero [] ∷ []) (logic (codes "1"))
    ∷ gives (logics nothing_from_zero [] ∷ logics nothing_at_the_least [] ∷ []) (logic (codes "1"))
    ∷ gives (logics (upto 1 1) (codes "1") ∷ logics (downto 0 0) (codes "H") ∷ []) (logic (codes "1"))
    ∷ gives (logics (downto 2 0) (codes "0-1") ∷ logics (upto 5 7) (codes "0X1") ∷ []) (logic (codes "1"))
    ∷ gives (logics (upto 1 3) (codes "01U") ∷ logics (downto 9 7) (codes "01-") ∷ []) (logic (codes "1"))
    ∷ gives (logics (upto 1 3) (codes "01U") ∷ logics (upto 1 3) (codes "010") ∷ []) (logic (codes "U"))
    ∷ gives (logics (upto 1 3) (codes "0X1") ∷ logics (upto 1 3) (codes "111") ∷ []) (logic (codes "0"))
    ∷ gives (logics (upto 1 3) (codes "0Z1") ∷ logics (upto 1 3) (codes "001") ∷ []) (logic (codes "X"))
    ∷ stops (logics (upto 1 3) (codes "011") ∷ logics (upto 1 1) (codes "0") ∷ []) Length
    ∷ stops (logics nothing_from_zero [] ∷ logics (upto 1 1) (codes "-") ∷ []) Length
    ∷ stops (logics (upto 1 1) (codes "-") ∷ logics nothing_at_the_least [] ∷ []) Length ∷ []

-- ---- `?=` of BIT and arrays of it

abbrev pub bit_vector_matches : List Case
bit_vector_matches =
    gives (bits nothing_from_zero [] ∷ bits (downto 7 8) [] ∷ []) (bit (codes "1"))
    ∷ gives (bits nothing_at_the_least [] ∷ bits nothing_from_zero [] ∷ []) (bit (codes "1"))
    ∷ gives (bits (upto 1 1) (codes "1") ∷ bits (downto 0 0) (codes "1") ∷ []) (bit (codes "1"))
    ∷ gives (bits (downto 2 0) (codes "011") ∷ bits (upto 5 7) (codes "011") ∷ []) (bit (codes "1"))
    ∷ gives (bits (downto 2 0) (codes "011") ∷ bits (upto 5 7) (codes "111") ∷ []) (bit (codes "0"))
    ∷ gives (bits (downto 2 0) (codes "011") ∷ bits (upto 5 7) (codes "010") ∷ []) (bit (codes "0"))
    ∷ stops (bits (upto 1 3) (codes "011") ∷ bits (upto 1 1) (codes "0") ∷ []) Length
    ∷ stops (bits nothing_from_zero [] ∷ bits (upto 1 1) (codes "0") ∷ []) Length ∷ []

-- ---- whether an element is '-'

abbrev pub dashes : List Case
dashes =
    gives (logics nothing_from_zero [] ∷ []) no ∷ gives (logics nothing_at_the_least [] ∷ []) no ∷ gives (logics (downto 0 0) (codes "-") ∷ []) yes
    ∷ gives (logics (downto 2 0) (codes "0U1") ∷ []) no ∷ gives (logics (downto 2 0) (codes "0-1") ∷ []) yes ∷ gives (logics (upto 3 5) (codes "ZXH") ∷ []) no
    ∷ gives (logics (upto 3 5) (codes "WL-") ∷ []) yes ∷ []

pub record MatchingFacts : Type 0 where
  pub conditions : Agree (vd_cond ∷ []) (Unary (Condition NineValued)) conditions
  pub values : Agree (vd_eq ∷ []) (Binary (Matching true NineValued)) matches
  pub vectors : Agree (vd_eq ∷ vd_eqv ∷ []) (Binary (Matching true NineValued)) vector_matches
  pub dashes : of_text (vd_dash ∷ []) dashes ≡ results dashes

pub record BitMatchingFacts : Type 0 where
  pub values : Agree (vd_eqb ∷ []) (Binary (Matching true TwoValued)) (for_bits (codes "1001"))
  pub vectors : Agree (vd_eqb ∷ vd_eqbv ∷ []) (Binary (Matching true TwoValued)) bit_vector_matches
  pub less : Agree (vd_ltb ∷ []) (Binary (MatchingOrder IsLess)) (for_bits (codes "0100"))
  pub at_most : Agree (vd_leb ∷ []) (Binary (MatchingOrder IsAtMost)) (for_bits (codes "1101"))
  pub greater : Agree (vd_gtb ∷ []) (Binary (MatchingOrder IsGreater)) (for_bits (codes "0010"))
  pub at_least : Agree (vd_geb ∷ []) (Binary (MatchingOrder IsAtLeast)) (for_bits (codes "1011"))
