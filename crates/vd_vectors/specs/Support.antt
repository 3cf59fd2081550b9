-- What the functions of the support package give, which stand in a design of VHDL-93 where the source has operators of 2019. The laws say that these are the operators.
-- A function on STD_ULOGIC and one on BIT differ in one letter of their names, as vd_rand and vd_brand.
use Rattle.std.specs.Prelude.{◌≡◌, ◌↔◌, ◌==◌, ℕ, zero, suc, ℤ, pos, negsuc, ◌+◌, ◌-◌, ◌%◌, nat_lt, Bool, true, false, not, ◌&&◌, ◌||◌, List, [], ◌∷◌, length, map, slice_index_or, SomeIndex, Option, Some, None, Ok, Err, if◌then◌else◌}
use Rattle.vd_values.specs.declared.scalar.Scalar.{Scalar}
use Rattle.vd_values.specs.declared.scalar.Scalar.TheVariants.{Literal}
use Rattle.vd_values.specs.declared.scalar.StopKind.TheVariants.{Length}
use Rattle.vd_values.specs.declared.logic.Logic.{Logic}
use Rattle.vd_values.specs.declared.logic.Logic.TheVariants.{U, X, Zero, One, L, H, Dash}
use Rattle.vd_values.specs.LogicTables.{column_of, and_of, or_of, xor_of}
use Rattle.vd_composites.specs.declared.ranges.Bounds.{Bounds}
use Rattle.vd_composites.specs.Stops.{OrStop, ◌>>=◌}
use Rattle.vd_composites.specs.Ranges.{length_of}
use Rattle.vd_composites.specs.Composites.{Value, Array}
use Rattle.vd_composites.specs.Composites.{One as OneValue}
use Rattle.vd_composites.specs.Vectors.{literals}
use Rattle.vd_vectors.specs.declared.logics.LogicType.TheVariants.{TwoValued, NineValued}
use Rattle.vd_vectors.specs.declared.logical.LogicalOperator.{LogicalOperator}
use Rattle.vd_vectors.specs.declared.logical.LogicalOperator.TheVariants.{And, Or, Nand, Nor, Xor, Xnor}
use Rattle.vd_vectors.specs.declared.shifts.ShiftOperator.TheVariants.{LogicalLeft, LogicalRight, RotateLeft, RotateRight}
use Rattle.vd_vectors.specs.declared.orders.Relation.{Relation}
use Rattle.vd_vectors.specs.declared.orders.Relation.TheVariants.{IsLess, IsAtMost, IsGreater, IsAtLeast}
use Rattle.vd_vectors.specs.Logics.{bounds_from_one, truth}
use Rattle.vd_vectors.specs.Logical.{logical, negated, reduction}
use Rattle.vd_vectors.specs.Shifts.{shift}
use Rattle.vd_vectors.specs.Matching.{matches, condition}
use Rattle.vd_vectors.specs.Orders.{matching_ordered}
use Rattle.vd_vectors.specs.Laws.{different, of_bool}

-- ---- arguments and results

-- the number of a value of BIT in its type, whose '1' is `true` here
abbrev pub number_of : Bool → ℕ
number_of a = if a then 1 else 0

-- a value of BIT, a value of STD_ULOGIC, and vectors of these by their bounds and their elements from the left
abbrev pub bit : Bool → Value Scalar
bit a = OneValue (Literal (number_of a))

abbrev pub value : Logic → Value Scalar
value a = OneValue (Literal (column_of a))

abbrev pub bits : Bounds → List Bool → Value Scalar
bits b xs = Array b (literals (map number_of xs))

abbrev pub values : Bounds → List Logic → Value Scalar
values b xs = Array b (literals (map column_of xs))

-- Results that are vectors of STD_ULOGIC have the bounds 1 to n, where these belong to the index subtype; those of BIT have the bounds of the argument.
abbrev pub vector : List Logic → OrStop (Value Scalar)
vector xs = bounds_from_one (length xs) >>= λ b. Ok (values b xs)

-- ---- vd_cond

-- whether a value is '1' or 'H'
abbrev pub is_high : Logic → Bool
is_high One = true
is_high H = true
is_high _ = false

abbrev pub vd_cond : Logic → Value Scalar
vd_cond a = truth (is_high a)

-- ---- vd_eq and vd_eqb, vd_eqv and vd_eqbv

-- the logical level of a value, where it has one
abbrev pub level_of : Logic → Option Bool
level_of Zero = Some false
level_of L = Some false
level_of One = Some true
level_of H = Some true
level_of _ = None

abbrev pub by_levels : Option Bool → Option Bool → Logic
by_levels (Some a) (Some b) = if different a b then Zero else One
by_levels _ _ = X

-- '1' where either value is '-'; else 'U' where either is 'U'; else '1' or '0' by the levels, where both have one; else 'X'
abbrev pub match_values : Logic → Logic → Logic
match_values Dash r = One
match_values l Dash = One
match_values U r = U
match_values l U = U
match_values l r = by_levels (level_of l) (level_of r)

abbrev pub match_bits : Bool → Bool → Bool
match_bits l r = not (different l r)

-- the matches of two lists in pairs, each taken with those in front of it
abbrev pub in_pairs : {A : Type 0} → (A → A → A) → (A → A → A) → A → List A → List A → A
in_pairs both same a [] ys = a
in_pairs both same a (x ∷ xs) [] = a
in_pairs both same a (x ∷ xs) (y ∷ ys) = in_pairs both same (both a (same x y)) xs ys

abbrev pub vd_eq : Logic → Logic → Value Scalar
vd_eq l r = value (match_values l r)

abbrev pub vd_eqb : Bool → Bool → Value Scalar
vd_eqb l r = bit (match_bits l r)

-- the elements' results taken together by `and`, from '1'; vectors of different lengths are a stop
abbrev pub vd_eqv : List Logic → List Logic → OrStop (Value Scalar)
vd_eqv xs ys = if length xs == length ys then Ok (value (in_pairs and_of match_values One xs ys)) else Err Length

abbrev pub vd_eqbv : List Bool → List Bool → OrStop (Value Scalar)
vd_eqbv xs ys = if length xs == length ys then Ok (bit (in_pairs (λ a b. a && b) match_bits true xs ys)) else Err Length

-- ---- vd_ltb, vd_leb, vd_gtb and vd_geb

abbrev pub vd_comparison : Relation → Bool → Bool → Value Scalar
vd_comparison IsLess l r = bit (not l && r)
vd_comparison IsAtMost l r = bit (not l || r)
vd_comparison IsGreater l r = bit (l && not r)
vd_comparison IsAtLeast l r = bit (l || not r)

-- ---- functions of `and`, `or` and `xor`

pub data Junction : Type 0 where
  Conjunction : Junction
  Disjunction : Junction
  Exclusion : Junction

-- its operator, and the one that is `not` of it
abbrev pub operator_of : Junction → LogicalOperator
operator_of Conjunction = And
operator_of Disjunction = Or
operator_of Exclusion = Xor

abbrev pub denied : Junction → LogicalOperator
denied Conjunction = Nand
denied Disjunction = Nor
denied Exclusion = Xnor

abbrev pub of_values : Junction → Logic → Logic → Logic
of_values Conjunction = and_of
of_values Disjunction = or_of
of_values Exclusion = xor_of

abbrev pub of_bits : Junction → Bool → Bool → Bool
of_bits Conjunction a b = a && b
of_bits Disjunction a b = a || b
of_bits Exclusion a b = different a b

-- what it gives of no values
abbrev pub of_none : Junction → Bool
of_none Conjunction = true
of_none Disjunction = false
of_none Exclusion = false

-- the elements taken together from the left
abbrev pub taken_together : {A : Type 0} → (A → A → A) → A → List A → A
taken_together f a [] = a
taken_together f a (x ∷ xs) = taken_together f (f a x) xs

-- vd_rand, vd_ror1 and vd_rxor; vd_brand, vd_bror and vd_brxor
abbrev pub vd_reduction : Junction → List Logic → Value Scalar
vd_reduction j xs = value (taken_together (of_values j) (of_bool (of_none j)) xs)

abbrev pub vd_bit_reduction : Junction → List Bool → Value Scalar
vd_bit_reduction j xs = bit (taken_together (of_bits j) (of_none j) xs)

-- vd_and_vs, vd_or_vs and vd_xor_vs; vd_and_sv, vd_or_sv and vd_xor_sv
abbrev pub vd_vs : Junction → List Logic → Logic → OrStop (Value Scalar)
vd_vs j xs y = vector (map (λ x. of_values j x y) xs)

abbrev pub vd_sv : Junction → Logic → List Logic → OrStop (Value Scalar)
vd_sv j x ys = vector (map (λ y. of_values j x y) ys)

-- vd_band_vs, vd_bor_vs and vd_bxor_vs; vd_band_sv, vd_bor_sv and vd_bxor_sv
abbrev pub vd_bvs : Junction → Bounds → List Bool → Bool → Value Scalar
vd_bvs j b xs y = bits b (map (λ x. of_bits j x y) xs)

abbrev pub vd_bsv : Junction → Bool → Bounds → List Bool → Value Scalar
vd_bsv j x b ys = bits b (map (λ y. of_bits j x y) ys)

-- ---- vd_sll, vd_srl, vd_rol and vd_ror

-- the element at a place of the result, from 0, by a count that isn't negative
abbrev pub from_right : ℕ → List Logic → ℕ → Logic
from_right n xs place = slice_index_or xs (place + n) Zero

abbrev pub from_left : ℕ → List Logic → ℕ → Logic
from_left n xs place = if nat_lt place n then Zero else slice_index_or xs (place - n) Zero

abbrev pub round_left : ℕ → List Logic → ℕ → Logic
round_left n xs place = slice_index_or xs ((place + n) % length xs) Zero

abbrev pub round_right : ℕ → List Logic → ℕ → Logic
round_right n xs place = slice_index_or xs ((place + (length xs - n % length xs)) % length xs) Zero

-- so many elements by their places
abbrev pub by_places : ℕ → (ℕ → Logic) → List Logic
by_places zero f = []
by_places (suc n) f = f 0 ∷ by_places n (λ place. f (suc place))

-- A result has as many elements as the argument. By a negative count the elements move the other way, by its size.
abbrev pub moved : (ℕ → List Logic → ℕ → Logic) → (ℕ → List Logic → ℕ → Logic) → List Logic → ℤ → OrStop (Value Scalar)
moved forth back xs (pos n) = vector (by_places (length xs) (forth n xs))
moved forth back xs (negsuc n) = vector (by_places (length xs) (back (suc n) xs))

abbrev pub vd_sll : List Logic → ℤ → OrStop (Value Scalar)
vd_sll xs n = moved from_right from_left xs n

abbrev pub vd_srl : List Logic → ℤ → OrStop (Value Scalar)
vd_srl xs n = moved from_left from_right xs n

abbrev pub vd_rol : List Logic → ℤ → OrStop (Value Scalar)
vd_rol xs n = moved round_left round_right xs n

abbrev pub vd_ror : List Logic → ℤ → OrStop (Value Scalar)
vd_ror xs n = moved round_right round_left xs n

-- ---- vd_dash, for which there is no operator

abbrev pub has_dash : List Logic → Bool
has_dash [] = false
has_dash (Dash ∷ xs) = true
has_dash (x ∷ xs) = has_dash xs

abbrev pub vd_dash : List Logic → Value Scalar
vd_dash xs = truth (has_dash xs)

-- ---- laws

-- Each function gives what its operator gives on these arguments. (An array of BIT has as many elements as its bounds give.)
pub record SupportGivesOperators : Type 0 where
  pub condition : (a : Logic) → condition NineValued (value a) ≡ Ok (vd_cond a)
  pub equal : (l r : Logic) → matches true NineValued (value l) (value r) ≡ Ok (vd_eq l r)
  pub equal_bits : (l r : Bool) → matches true TwoValued (bit l) (bit r) ≡ Ok (vd_eqb l r)
  pub equal_vectors : (b c : Bounds) (xs ys : List Logic) → matches true NineValued (values b xs) (values c ys) ≡ vd_eqv xs ys
  pub equal_bit_vectors : (b c : Bounds) (xs ys : List Bool) → matches true TwoValued (bits b xs) (bits c ys) ≡ vd_eqbv xs ys
  pub comparisons : (o : Relation) (l r : Bool) → matching_ordered o (bit l) (bit r) ≡ Ok (vd_comparison o l r)
  pub reductions : (j : Junction) (b : Bounds) (xs : List Logic) → reduction (operator_of j) NineValued (values b xs) ≡ Ok (vd_reduction j xs)
  pub bit_reductions : (j : Junction) (b : Bounds) (xs : List Bool) → reduction (operator_of j) TwoValued (bits b xs) ≡ Ok (vd_bit_reduction j xs)
  pub vector_and_value : (j : Junction) (b : Bounds) (xs : List Logic) (y : Logic) → logical (operator_of j) NineValued (values b xs) (value y) ≡ vd_vs j xs y
  pub value_and_vector : (j : Junction) (x : Logic) (b : Bounds) (ys : List Logic) → logical (operator_of j) NineValued (value x) (values b ys) ≡ vd_sv j x ys
  pub bit_vector_and_bit : (j : Junction) (b : Bounds) (xs : List Bool) (y : Bool) → length xs ≡ length_of b → logical (operator_of j) TwoValued (bits b xs) (bit y) ≡ Ok (vd_bvs j b xs y)
  pub bit_and_bit_vector : (j : Junction) (x : Bool) (b : Bounds) (ys : List Bool) → length ys ≡ length_of b → logical (operator_of j) TwoValued (bit x) (bits b ys) ≡ Ok (vd_bsv j x b ys)
  pub left_shifts : (b : Bounds) (xs : List Logic) (n : ℤ) → shift LogicalLeft NineValued (values b xs) n ≡ vd_sll xs n
  pub right_shifts : (b : Bounds) (xs : List Logic) (n : ℤ) → shift LogicalRight NineValued (values b xs) n ≡ vd_srl xs n
  pub left_rotations : (b : Bounds) (xs : List Logic) (n : ℤ) → shift RotateLeft NineValued (values b xs) n ≡ vd_rol xs n
  pub right_rotations : (b : Bounds) (xs : List Logic) (n : ℤ) → shift RotateRight NineValued (values b xs) n ≡ vd_ror xs n
  pub dashes : (xs : List Logic) → (has_dash xs ≡ true) ↔ SomeIndex xs (λ place. slice_index_or xs place U ≡ Dash)

-- `?/=`, and `nand`, `nor` and `xnor` of an array or of an array and a scalar, are `not` of what the functions give.
pub record DeniedBySupport : Type 0 where
  pub unequal : (l r : Logic) → matches false NineValued (value l) (value r) ≡ negated NineValued (vd_eq l r)
  pub unequal_bits : (l r : Bool) → matches false TwoValued (bit l) (bit r) ≡ negated TwoValued (vd_eqb l r)
  pub unequal_vectors : (b c : Bounds) (xs ys : List Logic) → matches false NineValued (values b xs) (values c ys) ≡ (vd_eqv xs ys >>= negated NineValued)
  pub unequal_bit_vectors : (b c : Bounds) (xs ys : List Bool) → matches false TwoValued (bits b xs) (bits c ys) ≡ (vd_eqbv xs ys >>= negated TwoValued)
  pub reductions : (j : Junction) (b : Bounds) (xs : List Logic) → reduction (denied j) NineValued (values b xs) ≡ negated NineValued (vd_reduction j xs)
  pub bit_reductions : (j : Junction) (b : Bounds) (xs : List Bool) → reduction (denied j) TwoValued (bits b xs) ≡ negated TwoValued (vd_bit_reduction j xs)
  pub vector_and_value : (j : Junction) (b : Bounds) (xs : List Logic) (y : Logic) → logical (denied j) NineValued (values b xs) (value y) ≡ (vd_vs j xs y >>= negated NineValued)
  pub value_and_vector : (j : Junction) (x : Logic) (b : Bounds) (ys : List Logic) → logical (denied j) NineValued (value x) (values b ys) ≡ (vd_sv j x ys >>= negated NineValued)
  pub bit_vector_and_bit : (j : Junction) (b : Bounds) (xs : List Bool) (y : Bool) → length xs ≡ length_of b → logical (denied j) TwoValued (bits b xs) (bit y) ≡ negated TwoValued (vd_bvs j b xs y)
  pub bit_and_bit_vector : (j : Junction) (x : Bool) (b : Bounds) (ys : List Bool) → length ys ≡ length_of b → logical (denied j) TwoValued (bit x) (bits b ys) ≡ negated TwoValued (vd_bsv j x b ys)
