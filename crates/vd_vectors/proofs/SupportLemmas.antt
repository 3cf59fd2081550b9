-- What the functions of the support package give.
use Rattle.std.proofs.Common.{◌≡◌, ◌<◌, ◌≤◌, ℕ, zero, suc, ◌+◌, ◌-◌, ◌*◌, ◌%◌, ℤ, pos, negsuc, Bool, true, false, List, [], ◌∷◌, ◌++◌, length, map, take, drop, get_or, min, refl, sym, ap, ◌∙◌, inl, inr, arith, length-drop}
use Rattle.std.proofs.lemmas.Int.{ints}
use Rattle.std.proofs.lemmas.List.{length-replicate, length-map}
use Rattle.std.proofs.lemmas.Nat.{mod-mul-add, mod_below, div-add-mod'}
use Rattle.std.proofs.lemmas.Bool.{cases_lt}
use Rattle.std.proofs.lemmas.Bool.Decides.{nat_tests}
use lib.ListN.{replicate}
use Rattle.std.specs.Prelude.{nat_lt, ◌/◌, ◌==◌, not, ◌&&◌, ◌+ℤ◌, ◌-ℤ◌, Ok, Err, ◌↔◌, SomeIndex, slice_index_or, if◌then◌else◌}
use Rattle.vd_values.specs.declared.scalar.Scalar.{Scalar}
use Rattle.vd_values.specs.declared.scalar.Scalar.TheVariants.{Literal}
use Rattle.vd_values.specs.declared.scalar.StopKind.TheVariants.{Index, Range, Length}
use Rattle.vd_values.specs.declared.logic.Logic.{Logic}
use Rattle.vd_values.specs.declared.logic.Logic.TheVariants.{U, X, Zero, One, Z, W, L, H, Dash}
use Rattle.vd_values.specs.LogicTables.{column_of, and_of, not_of}
use Rattle.vd_values.specs.Matching.{match_of, condition_of}
use Rattle.vd_composites.specs.declared.ranges.Bounds.{Bounds}
use Rattle.vd_composites.specs.Stops.{OrStop, ◌>>=◌}
use Rattle.vd_composites.specs.Ranges.{length_of, from_one, size_of}
use Rattle.vd_composites.specs.Composites.{Value, Array, Items, count}
use Rattle.vd_composites.specs.Composites.{One as OneValue}
use Rattle.vd_composites.specs.Parts.{array_of}
use Rattle.vd_composites.specs.Vectors.{literals, literal_positions_in}
use Rattle.vd_vectors.specs.declared.logics.LogicType.{LogicType}
use Rattle.vd_vectors.specs.declared.logics.LogicType.TheVariants.{TwoValued, NineValued}
use Rattle.vd_vectors.specs.declared.logical.LogicalOperator.{LogicalOperator}
use Rattle.vd_vectors.specs.declared.logical.LogicalOperator.TheVariants.{And, Or, Xor}
use Rattle.vd_vectors.specs.declared.shifts.ShiftOperator.{ShiftOperator}
use Rattle.vd_vectors.specs.declared.shifts.ShiftOperator.TheVariants.{LogicalLeft, LogicalRight, RotateLeft, RotateRight}
use Rattle.vd_vectors.specs.declared.orders.Relation.{Relation}
use Rattle.vd_vectors.specs.declared.orders.Relation.TheVariants.{IsLess, IsAtMost, IsGreater, IsAtLeast}
use Rattle.vd_vectors.specs.Logics.{logic_array, logic_in, logics_in, logics_at, logic_value, position_in, result_array, truth}
use Rattle.vd_vectors.specs.Logical.{logical_of, logical, negated, reduced, reduction, folded}
use Rattle.vd_vectors.specs.Shifts.{places, shift, shifted}
use Rattle.vd_vectors.specs.Matching.{match_all, match_both, matches, condition, equal_or_not}
use Rattle.vd_vectors.specs.Orders.{matching_ordered}
use Rattle.vd_vectors.specs.Moves.{rotated}
use Rattle.vd_vectors.specs.Laws.{of_bool}
use Rattle.vd_vectors.specs.Support.{number_of, bit, value, bits, values, vector, is_high, vd_cond, match_values, match_bits, in_pairs, vd_eq, vd_eqb, vd_eqv, vd_eqbv, vd_comparison, Junction, Conjunction, Disjunction, Exclusion, operator_of, denied, of_values, of_bits, of_none, taken_together, vd_reduction, vd_bit_reduction, vd_vs, vd_sv, vd_bvs, vd_bsv, from_right, from_left, round_left, round_right, by_places, moved, has_dash}
use Rattle.vd_vectors.proofs.ShiftLemmas.{logical_left, logical_right, rotation_left, rotation_right, shifts_long}

conditions : (a : Logic) → is_high a ≡ condition_of a
conditions U = refl
conditions X = refl
conditions Zero = refl
conditions One = refl
conditions Z = refl
conditions W = refl
conditions L = refl
conditions H = refl
conditions Dash = refl

-- the table, pair by pair
equals : (l r : Logic) → match_values l r ≡ match_of l r
equals U U = refl
equals U X = refl
equals U Zero = refl
equals U One = refl
equals U Z = refl
equals U W = refl
equals U L = refl
equals U H = refl
equals U Dash = refl
equals X U = refl
equals X X = refl
equals X Zero = refl
equals X One = refl
equals X Z = refl
equals X W = refl
equals X L = refl
equals X H = refl
equals X Dash = refl
equals Zero U = refl
equals Zero X = refl
equals Zero Zero = refl
equals Zero One = refl
equals Zero Z = refl
equals Zero W = refl
equals Zero L = refl
equals Zero H = refl
equals Zero Dash = refl
equals One U = refl
equals One X = refl
equals One Zero = refl
equals One One = refl
equals One Z = refl
equals One W = refl
equals One L = refl
equals One H = refl
equals One Dash = refl
equals Z U = refl
equals Z X = refl
equals Z Zero = refl
equals Z One = refl
equals Z Z = refl
equals Z W = refl
equals Z L = refl
equals Z H = refl
equals Z Dash = refl
equals W U = refl
equals W X = refl
equals W Zero = refl
equals W One = refl
equals W Z = refl
equals W W = refl
equals W L = refl
equals W H = refl
equals W Dash = refl
equals L U = refl
equals L X = refl
equals L Zero = refl
equals L One = refl
equals L Z = refl
equals L W = refl
equals L L = refl
equals L H = refl
equals L Dash = refl
equals H U = refl
equals H X = refl
equals H Zero = refl
equals H One = refl
equals H Z = refl
equals H W = refl
equals H L = refl
equals H H = refl
equals H Dash = refl
equals Dash U = refl
equals Dash X = refl
equals Dash Zero = refl
equals Dash One = refl
equals Dash Z = refl
equals Dash W = refl
equals Dash L = refl
equals Dash H = refl
equals Dash Dash = refl

equal_lists : (a : Logic) (xs ys : List Logic) → in_pairs and_of match_values a xs ys ≡ match_all a xs ys
equal_lists a [] ys = refl
equal_lists a (x ∷ xs) [] = refl
equal_lists a (x ∷ xs) (y ∷ ys) = ap (λ b. in_pairs and_of match_values (and_of a b) xs ys) (equals x y) ∙ equal_lists (and_of a (match_of x y)) xs ys

together : (o : LogicalOperator) (a : Logic) (xs : List Logic) → taken_together (logical_of o) a xs ≡ folded o a xs
together o a [] = refl
together o a (x ∷ xs) = together o (logical_of o a x) xs

-- ---- places

in_front : (xs ys : List Logic) (k : ℕ) → k < length xs → get_or (xs ++ ys) k Zero ≡ get_or xs k Zero
in_front [] ys k h = absurd (omega arith)
in_front (x ∷ xs) ys zero h = refl
in_front (x ∷ xs) ys (suc k) h = in_front xs ys k (omega arith)

behind : (xs ys : List Logic) (k : ℕ) → get_or (xs ++ ys) (length xs + k) Zero ≡ get_or ys k Zero
behind [] ys k = let e : 0 + k ≡ k = omega arith in ap (λ m. get_or ys m Zero) e
behind (x ∷ xs) ys k = let e : suc (length xs) + k ≡ suc (length xs + k) = omega arith in ap (λ m. get_or (x ∷ xs ++ ys) m Zero) e ∙ behind xs ys k

dropped : (n : ℕ) (xs : List Logic) (k : ℕ) → get_or (drop n xs) k Zero ≡ get_or xs (k + n) Zero
dropped zero xs k = let e : k ≡ k + 0 = omega arith in ap (λ m. get_or xs m Zero) e
dropped (suc n) [] k = refl
dropped (suc n) (x ∷ xs) k = let e : suc (k + n) ≡ k + suc n = omega arith in dropped n xs k ∙ ap (λ m. get_or (x ∷ xs) m Zero) e

kept : (n : ℕ) (xs : List Logic) (k : ℕ) → k < n → get_or (take n xs) k Zero ≡ get_or xs k Zero
kept zero xs k h = absurd (omega arith)
kept (suc n) [] k h = refl
kept (suc n) (x ∷ xs) zero h = refl
kept (suc n) (x ∷ xs) (suc k) h = kept n xs k (omega arith)

all_zero : (n k : ℕ) → get_or (replicate n Zero) k Zero ≡ Zero
all_zero zero k = refl
all_zero (suc n) zero = refl
all_zero (suc n) (suc k) = all_zero n k

outside : (xs : List Logic) (k : ℕ) → length xs ≤ k → get_or xs k Zero ≡ Zero
outside [] k h = refl
outside (x ∷ xs) zero h = absurd (omega arith)
outside (x ∷ xs) (suc k) h = outside xs k (omega arith)

-- an element of two lists, in the second one
second_part : (xs ys : List Logic) (k : ℕ) → length xs ≤ k → get_or (xs ++ ys) k Zero ≡ get_or ys (k - length xs) Zero
second_part xs ys k h = let e : k ≡ length xs + (k - length xs) = omega arith in ap (λ m. get_or (xs ++ ys) m Zero) e ∙ behind xs ys (k - length xs)

shifts_left : (n : ℕ) (xs : List Logic) (k : ℕ) → k < length xs → get_or (places n LogicalLeft xs) k Zero ≡ from_right n xs k
shifts_left n xs k h =
    let m : ℕ = min n (length xs) in
    let front = drop m xs in
    let back = replicate m Zero in
    let long : length front ≡ length xs - m = length-drop m xs in
    ap (λ ys. get_or ys k Zero) (logical_left n xs) ∙ elim (cases_lt k (length front)) [
      | inl less ↦ (let e : k + m ≡ k + n = omega arith in in_front front back k less ∙ dropped m xs k ∙ ap (λ j. get_or xs j Zero) e)
      | inr more ↦ second_part front back k more ∙ all_zero m (k - length front) ∙ sym (outside xs (k + n) (omega arith))
    ]

shifts_right : (n : ℕ) (xs : List Logic) (k : ℕ) → k < length xs → get_or (places n LogicalRight xs) k Zero ≡ from_left n xs k
shifts_right n xs k h =
    let m : ℕ = min n (length xs) in
    let front = replicate m Zero in
    let back = take (length xs - m) xs in
    let long : length front ≡ m = length-replicate m Zero in
    ap (λ ys. get_or ys k Zero) (logical_right n xs) ∙ elim (cases_lt k n) [
      | inl less ↦ (
          let t : nat_lt k n ≡ true = grind (arith, nat_tests) in
          let inside : k < length front = omega arith in
          in_front front back k inside ∙ all_zero m k ∙ sym (ap (λ b. if b then Zero else get_or xs (k - n) Zero) t))
      | inr more ↦ (
          let t : nat_lt k n ≡ false = grind (arith, nat_tests) in
          let beyond : length front ≤ k = omega arith in
          let e : k - length front ≡ k - n = omega arith in
          second_part front back k beyond ∙ kept (length xs - m) xs (k - length front) (omega arith) ∙ ap (λ j. get_or xs j Zero) e
          ∙ sym (ap (λ b. if b then Zero else get_or xs (k - n) Zero) t))
    ]

-- an element of a rotated list, by how far it was rotated
turned : (j : ℕ) (xs : List Logic) (k : ℕ) → j ≤ length xs → k < length xs → get_or (rotated j xs) k Zero ≡ get_or xs ((k + j) % length xs) Zero
turned j xs k h below =
    let front = drop j xs in
    let back = take j xs in
    let long : length front ≡ length xs - j = length-drop j xs in
    elim (cases_lt k (length front)) [
      | inl less ↦ (
          let e : k + j ≡ 0 * length xs + (k + j) = omega arith in
          let same : (k + j) % length xs ≡ k + j = ap (λ m. m % length xs) e ∙ mod-mul-add 0 (length xs) (k + j) (omega arith) in
          in_front front back k less ∙ dropped j xs k ∙ ap (λ m. get_or xs m Zero) (sym same))
      | inr more ↦ (
          let i : ℕ = k - length front in
          let e : k + j ≡ 1 * length xs + i = omega arith in
          let same : (k + j) % length xs ≡ i = ap (λ m. m % length xs) e ∙ mod-mul-add 1 (length xs) i (omega arith) in
          second_part front back k more ∙ kept j xs i (omega arith) ∙ ap (λ m. get_or xs m Zero) (sym same))
    ]

-- a remainder in a sum
sum_mod : (k n w : ℕ) → 0 < w → (k + n % w) % w ≡ (k + n) % w
sum_mod k n w some =
    let q : ℕ = n / w in
    let r : ℕ = n % w in
    let below : r < w = mod_below n w some in
    let p : ℕ = (k + r) / w in
    let s : ℕ = (k + r) % w in
    let under : s < w = mod_below (k + r) w some in
    let one : n ≡ q * w + r = sym (div-add-mod' n w) in
    let two : k + r ≡ p * w + s = sym (div-add-mod' (k + r) w) in
    let e : k + n ≡ (q + p) * w + s = grind (arith, one, two) in
    sym (ap (λ m. m % w) e ∙ mod-mul-add (q + p) w s under)

rotations_left : (n : ℕ) (xs : List Logic) (k : ℕ) → k < length xs → get_or (places n RotateLeft xs) k Zero ≡ round_left n xs k
rotations_left n xs k h =
    let some : 0 < length xs = omega arith in
    let below : n % length xs < length xs = mod_below n (length xs) some in
    ap (λ ys. get_or ys k Zero) (rotation_left n xs some) ∙ turned (n % length xs) xs k (omega arith) h ∙ ap (λ m. get_or xs m Zero) (sum_mod k n (length xs) some)

rotations_right : (n : ℕ) (xs : List Logic) (k : ℕ) → k < length xs → get_or (places n RotateRight xs) k Zero ≡ round_right n xs k
rotations_right n xs k h =
    let some : 0 < length xs = omega arith in
    ap (λ ys. get_or ys k Zero) (rotation_right n xs some) ∙ turned (length xs - n % length xs) xs k (omega arith) h

-- ---- what values are read as, and what they are made of

positions_read : (ns : List ℕ) → literal_positions_in (literals ns) ≡ Ok (map (λ n. pos n) ns)
positions_read [] = refl
positions_read (n ∷ ns) = ap (λ g. g >>= λ ps. Ok (pos n ∷ ps)) (positions_read ns)

pub value_read : (a : Logic) → logic_in NineValued (value a) ≡ Ok a
value_read U = refl
value_read X = refl
value_read Zero = refl
value_read One = refl
value_read Z = refl
value_read W = refl
value_read L = refl
value_read H = refl
value_read Dash = refl

bit_read : (a : Bool) → logic_in TwoValued (bit a) ≡ Ok (of_bool a)
bit_read true = refl
bit_read false = refl

bit_made : (a : Bool) → logic_value TwoValued (of_bool a) ≡ bit a
bit_made true = refl
bit_made false = refl

one_more : (t : LogicType) (a : Logic) (ns : List ℕ) (xs : List Logic) (n : ℕ) → logic_in t (OneValue (Literal n)) ≡ Ok a → logics_at t (map (λ n. pos n) ns) ≡ Ok xs →
    logics_at t (map (λ n. pos n) (n ∷ ns)) ≡ Ok (a ∷ xs)
one_more t a ns xs n h g = ap (λ r. r >>= λ c. logics_at t (map (λ n. pos n) ns) >>= λ ys. Ok (c ∷ ys)) h ∙ ap (λ r. r >>= λ ys. Ok (a ∷ ys)) g

values_at : (xs : List Logic) → logics_at NineValued (map (λ n. pos n) (map column_of xs)) ≡ Ok xs
values_at [] = refl
values_at (x ∷ xs) = one_more NineValued x (map column_of xs) xs (column_of x) (value_read x) (values_at xs)

bits_at : (xs : List Bool) → logics_at TwoValued (map (λ n. pos n) (map number_of xs)) ≡ Ok (map of_bool xs)
bits_at [] = refl
bits_at (x ∷ xs) = one_more TwoValued (of_bool x) (map number_of xs) (map of_bool xs) (number_of x) (bit_read x) (bits_at xs)

pub values_read : (b : Bounds) (xs : List Logic) → logics_in NineValued (values b xs) ≡ Ok xs
values_read b xs = ap (λ g. g >>= logics_at NineValued) (positions_read (map column_of xs)) ∙ values_at xs

bits_read : (b : Bounds) (xs : List Bool) → logics_in TwoValued (bits b xs) ≡ Ok (map of_bool xs)
bits_read b xs = ap (λ g. g >>= logics_at TwoValued) (positions_read (map number_of xs)) ∙ bits_at xs

count_literals : (ns : List ℕ) → count (literals ns) ≡ length ns
count_literals [] = refl
count_literals (n ∷ ns) = ap suc (count_literals ns)

sized : (x : ℤ) (n : ℕ) → x ≡ pos n → size_of x ≡ n
sized x n h = ap size_of h

from_one_long : (n : ℕ) → length_of (from_one n) ≡ n
from_one_long n = let e : pos 1 +ℤ pos n -ℤ pos 1 -ℤ pos 1 +ℤ pos 1 ≡ pos n = omega (arith, ints) in sized (pos 1 +ℤ pos n -ℤ pos 1 -ℤ pos 1 +ℤ pos 1) n e

whole : (b : Bounds) (vs : Items Scalar) → count vs ≡ length_of b → array_of b vs ≡ Ok (Array b vs)
whole b vs h = let t : (count vs == length_of b) ≡ true = grind (arith, nat_tests) in ap (λ c. if c then Ok (Array b vs) else Err Range) t

pub numbers_made : (ns : List ℕ) → array_of (from_one (length ns)) (literals ns) ≡ Ok (Array (from_one (length ns)) (literals ns))
numbers_made ns = whole (from_one (length ns)) (literals ns) (count_literals ns ∙ sym (from_one_long (length ns)))

-- with the bounds 1 to n, where these belong to the index subtype, and where they don't
pub numbers_by : (too_long : Bool) (ns : List ℕ) → ((if too_long then Err Index else Ok (from_one (length ns))) >>= λ b. array_of b (literals ns))
    ≡ ((if too_long then Err Index else Ok (from_one (length ns))) >>= λ b. Ok (Array b (literals ns)))
numbers_by true ns = refl
numbers_by false ns = numbers_made ns

numbers : (xs : List Bool) → map (position_in TwoValued) (map of_bool xs) ≡ map number_of xs
numbers [] = refl
numbers (true ∷ xs) = ap (λ ns. 1 ∷ ns) (numbers xs)
numbers (false ∷ xs) = ap (λ ns. 0 ∷ ns) (numbers xs)

-- where the bounds 1 to n belong to the index subtype, and where they don't
vector_by : (too_long : Bool) (xs : List Logic) → ((if too_long then Err Index else Ok (from_one (length xs))) >>= λ c. logic_array NineValued c xs)
    ≡ ((if too_long then Err Index else Ok (from_one (length xs))) >>= λ c. Ok (values c xs))
vector_by true xs = refl
vector_by false xs = whole (from_one (length xs)) (literals (map column_of xs)) (count_literals (map column_of xs) ∙ length-map xs column_of ∙ sym (from_one_long (length xs)))

vector_made : (b : Bounds) (xs : List Logic) → result_array NineValued b xs ≡ vector xs
vector_made b xs = vector_by (nat_lt 2147483647 (length xs)) xs

bits_made : (b : Bounds) (xs : List Bool) → length xs ≡ length_of b → result_array TwoValued b (map of_bool xs) ≡ Ok (bits b xs)
bits_made b xs h = ap (λ ns. array_of b (literals ns)) (numbers xs) ∙ whole b (literals (map number_of xs)) (count_literals (map number_of xs) ∙ length-map xs number_of ∙ h)

-- ---- conditions and matches

pub conditions_are : (a : Logic) → condition NineValued (value a) ≡ Ok (vd_cond a)
conditions_are a = ap (λ g. g >>= λ x. Ok (truth (condition_of x))) (value_read a) ∙ ap (λ c. Ok (truth c)) (sym (conditions a))

matched : (equal : Bool) (l r : Logic) → matches equal NineValued (value l) (value r) ≡ Ok (value (equal_or_not equal (match_values l r)))
matched equal l r =
    ap (λ g. (g >>= λ x. logic_in NineValued (value r) >>= λ y. Ok (match_of x y)) >>= λ a. Ok (logic_value NineValued (equal_or_not equal a))) (value_read l)
    ∙ ap (λ g. (g >>= λ y. Ok (match_of l y)) >>= λ a. Ok (logic_value NineValued (equal_or_not equal a))) (value_read r)
    ∙ ap (λ a. Ok (value (equal_or_not equal a))) (sym (equals l r))

pub equal_values : (l r : Logic) → matches true NineValued (value l) (value r) ≡ Ok (vd_eq l r)
equal_values l r = matched true l r

value_negated : (a : Logic) → negated NineValued (value a) ≡ Ok (value (not_of a))
value_negated a = ap (λ g. g >>= λ x. Ok (logic_value NineValued (not_of x))) (value_read a)

bit_negated : (a : Bool) → negated TwoValued (bit a) ≡ Ok (bit (not a))
bit_negated true = refl
bit_negated false = refl

pub unequal_values : (l r : Logic) → matches false NineValued (value l) (value r) ≡ negated NineValued (vd_eq l r)
unequal_values l r = matched false l r ∙ sym (value_negated (match_values l r))

pub equal_bits_are : (l r : Bool) → matches true TwoValued (bit l) (bit r) ≡ Ok (vd_eqb l r)
equal_bits_are true true = refl
equal_bits_are true false = refl
equal_bits_are false true = refl
equal_bits_are false false = refl

pub unequal_bits_are : (l r : Bool) → matches false TwoValued (bit l) (bit r) ≡ negated TwoValued (vd_eqb l r)
unequal_bits_are true true = refl
unequal_bits_are true false = refl
unequal_bits_are false true = refl
unequal_bits_are false false = refl

read_both : {A : Type 0} (t : LogicType) (l r : Value Scalar) (xs ys : List Logic) (f : List Logic → List Logic → OrStop A) → logics_in t l ≡ Ok xs → logics_in t r ≡ Ok ys →
    (logics_in t l >>= λ cs. logics_in t r >>= λ ds. f cs ds) ≡ f xs ys
read_both t l r xs ys f h g = ap (λ q. q >>= λ cs. logics_in t r >>= λ ds. f cs ds) h ∙ ap (λ q. q >>= λ ds. f xs ds) g

chosen : (t : Bool) (a : Logic) (f : Logic → OrStop (Value Scalar)) → ((if t then Ok a else Err Length) >>= f) ≡ (if t then f a else Err Length)
chosen true a f = refl
chosen false a f = refl

then_negated : (k : LogicType) (t : Bool) (v : Value Scalar) (w : OrStop (Value Scalar)) → w ≡ negated k v → (if t then w else Err Length) ≡ ((if t then Ok v else Err Length) >>= negated k)
then_negated k true v w h = h
then_negated k false v w h = refl

matched_vectors : (equal : Bool) (b c : Bounds) (xs ys : List Logic) → matches equal NineValued (values b xs) (values c ys) ≡
    (if length xs == length ys then Ok (value (equal_or_not equal (in_pairs and_of match_values One xs ys))) else Err Length)
matched_vectors equal b c xs ys =
    ap (λ g. g >>= λ a. Ok (logic_value NineValued (equal_or_not equal a))) (read_both NineValued (values b xs) (values c ys) xs ys match_both (values_read b xs) (values_read c ys))
    ∙ chosen (length xs == length ys) (match_all One xs ys) (λ a. Ok (logic_value NineValued (equal_or_not equal a)))
    ∙ ap (λ a. if length xs == length ys then Ok (value (equal_or_not equal a)) else Err Length) (sym (equal_lists One xs ys))

pub equal_vectors_are : (b c : Bounds) (xs ys : List Logic) → matches true NineValued (values b xs) (values c ys) ≡ vd_eqv xs ys
equal_vectors_are b c xs ys = matched_vectors true b c xs ys

pub unequal_vectors_are : (b c : Bounds) (xs ys : List Logic) → matches false NineValued (values b xs) (values c ys) ≡ (vd_eqv xs ys >>= negated NineValued)
unequal_vectors_are b c xs ys =
    let a = in_pairs and_of match_values One xs ys in
    matched_vectors false b c xs ys ∙ then_negated NineValued (length xs == length ys) (value a) (Ok (value (not_of a))) (sym (value_negated a))

bit_pair : (a l r : Bool) → and_of (of_bool a) (match_of (of_bool l) (of_bool r)) ≡ of_bool (a && match_bits l r)
bit_pair true true true = refl
bit_pair true true false = refl
bit_pair true false true = refl
bit_pair true false false = refl
bit_pair false true true = refl
bit_pair false true false = refl
bit_pair false false true = refl
bit_pair false false false = refl

bit_pairs : (a : Bool) (xs ys : List Bool) → match_all (of_bool a) (map of_bool xs) (map of_bool ys) ≡ of_bool (in_pairs (λ a b. a && b) match_bits a xs ys)
bit_pairs a [] ys = refl
bit_pairs a (x ∷ xs) [] = refl
bit_pairs a (x ∷ xs) (y ∷ ys) = ap (λ c. match_all c (map of_bool xs) (map of_bool ys)) (bit_pair a x y) ∙ bit_pairs (a && match_bits x y) xs ys

bit_or_not : (equal a : Bool) → logic_value TwoValued (equal_or_not equal (of_bool a)) ≡ bit (if equal then a else not a)
bit_or_not true true = refl
bit_or_not true false = refl
bit_or_not false true = refl
bit_or_not false false = refl

same_long : (xs ys : List Bool) → (length (map of_bool xs) == length (map of_bool ys)) ≡ (length xs == length ys)
same_long xs ys = ap (λ n. n == length (map of_bool ys)) (length-map xs of_bool) ∙ ap (λ n. length xs == n) (length-map ys of_bool)

matched_bits : (equal : Bool) (b c : Bounds) (xs ys : List Bool) → matches equal TwoValued (bits b xs) (bits c ys) ≡
    (if length xs == length ys then Ok (bit (if equal then in_pairs (λ a b. a && b) match_bits true xs ys else not (in_pairs (λ a b. a && b) match_bits true xs ys))) else Err Length)
matched_bits equal b c xs ys =
    let us = map of_bool xs in
    let ws = map of_bool ys in
    let all = in_pairs (λ a b. a && b) match_bits true xs ys in
    ap (λ g. g >>= λ a. Ok (logic_value TwoValued (equal_or_not equal a))) (read_both TwoValued (bits b xs) (bits c ys) us ws match_both (bits_read b xs) (bits_read c ys))
    ∙ chosen (length us == length ws) (match_all One us ws) (λ a. Ok (logic_value TwoValued (equal_or_not equal a)))
    ∙ ap (λ t. if t then Ok (logic_value TwoValued (equal_or_not equal (match_all One us ws))) else Err Length) (same_long xs ys)
    ∙ ap (λ a. if length xs == length ys then Ok (logic_value TwoValued (equal_or_not equal a)) else Err Length) (bit_pairs true xs ys)
    ∙ ap (λ v. if length xs == length ys then Ok v else Err Length) (bit_or_not equal all)

pub equal_bit_vectors_are : (b c : Bounds) (xs ys : List Bool) → matches true TwoValued (bits b xs) (bits c ys) ≡ vd_eqbv xs ys
equal_bit_vectors_are b c xs ys = matched_bits true b c xs ys

pub unequal_bit_vectors_are : (b c : Bounds) (xs ys : List Bool) → matches false TwoValued (bits b xs) (bits c ys) ≡ (vd_eqbv xs ys >>= negated TwoValued)
unequal_bit_vectors_are b c xs ys =
    let a = in_pairs (λ a b. a && b) match_bits true xs ys in
    matched_bits false b c xs ys ∙ then_negated TwoValued (length xs == length ys) (bit a) (Ok (bit (not a))) (sym (bit_negated a))

pub comparisons_are : (o : Relation) (l r : Bool) → matching_ordered o (bit l) (bit r) ≡ Ok (vd_comparison o l r)
comparisons_are IsLess true true = refl
comparisons_are IsLess true false = refl
comparisons_are IsLess false true = refl
comparisons_are IsLess false false = refl
comparisons_are IsAtMost true true = refl
comparisons_are IsAtMost true false = refl
comparisons_are IsAtMost false true = refl
comparisons_are IsAtMost false false = refl
comparisons_are IsGreater true true = refl
comparisons_are IsGreater true false = refl
comparisons_are IsGreater false true = refl
comparisons_are IsGreater false false = refl
comparisons_are IsAtLeast true true = refl
comparisons_are IsAtLeast true false = refl
comparisons_are IsAtLeast false true = refl
comparisons_are IsAtLeast false false = refl

-- ---- reductions

values_reduced : (o : LogicalOperator) (b : Bounds) (xs : List Logic) → reduction o NineValued (values b xs) ≡ Ok (value (reduced o xs))
values_reduced o b xs = ap (λ g. g >>= λ ys. Ok (logic_value NineValued (reduced o ys))) (values_read b xs)

joined_values : (j : Junction) (xs : List Logic) → reduced (operator_of j) xs ≡ taken_together (of_values j) (of_bool (of_none j)) xs
joined_values Conjunction xs = sym (together And One xs)
joined_values Disjunction xs = sym (together Or Zero xs)
joined_values Exclusion xs = sym (together Xor Zero xs)

denied_values : (j : Junction) (xs : List Logic) → reduced (denied j) xs ≡ not_of (reduced (operator_of j) xs)
denied_values Conjunction xs = refl
denied_values Disjunction xs = refl
denied_values Exclusion xs = refl

pub reductions_are : (j : Junction) (b : Bounds) (xs : List Logic) → reduction (operator_of j) NineValued (values b xs) ≡ Ok (vd_reduction j xs)
reductions_are j b xs = values_reduced (operator_of j) b xs ∙ ap (λ a. Ok (value a)) (joined_values j xs)

pub denied_reductions : (j : Junction) (b : Bounds) (xs : List Logic) → reduction (denied j) NineValued (values b xs) ≡ negated NineValued (vd_reduction j xs)
denied_reductions j b xs =
    values_reduced (denied j) b xs
    ∙ ap (λ a. Ok (value a)) (denied_values j xs ∙ ap not_of (joined_values j xs))
    ∙ sym (value_negated (taken_together (of_values j) (of_bool (of_none j)) xs))

-- on BIT the tables are those of `Bool`
bits_joined : (j : Junction) (a c : Bool) → logical_of (operator_of j) (of_bool a) (of_bool c) ≡ of_bool (of_bits j a c)
bits_joined Conjunction true true = refl
bits_joined Conjunction true false = refl
bits_joined Conjunction false true = refl
bits_joined Conjunction false false = refl
bits_joined Disjunction true true = refl
bits_joined Disjunction true false = refl
bits_joined Disjunction false true = refl
bits_joined Disjunction false false = refl
bits_joined Exclusion true true = refl
bits_joined Exclusion true false = refl
bits_joined Exclusion false true = refl
bits_joined Exclusion false false = refl

not_bit : (a : Bool) → not_of (of_bool a) ≡ of_bool (not a)
not_bit true = refl
not_bit false = refl

denied_pair : (j : Junction) (x y : Logic) → logical_of (denied j) x y ≡ not_of (logical_of (operator_of j) x y)
denied_pair Conjunction x y = refl
denied_pair Disjunction x y = refl
denied_pair Exclusion x y = refl

bits_denied : (j : Junction) (a c : Bool) → logical_of (denied j) (of_bool a) (of_bool c) ≡ of_bool (not (of_bits j a c))
bits_denied j a c = denied_pair j (of_bool a) (of_bool c) ∙ ap not_of (bits_joined j a c) ∙ not_bit (of_bits j a c)

bits_folded : (j : Junction) (a : Bool) (xs : List Bool) → folded (operator_of j) (of_bool a) (map of_bool xs) ≡ of_bool (taken_together (of_bits j) a xs)
bits_folded j a [] = refl
bits_folded j a (x ∷ xs) = ap (λ c. folded (operator_of j) c (map of_bool xs)) (bits_joined j a x) ∙ bits_folded j (of_bits j a x) xs

bits_reduced : (j : Junction) (xs : List Bool) → reduced (operator_of j) (map of_bool xs) ≡ of_bool (taken_together (of_bits j) (of_none j) xs)
bits_reduced Conjunction xs = bits_folded Conjunction true xs
bits_reduced Disjunction xs = bits_folded Disjunction false xs
bits_reduced Exclusion xs = bits_folded Exclusion false xs

bit_vector_reduced : (o : LogicalOperator) (b : Bounds) (xs : List Bool) (a : Bool) → reduced o (map of_bool xs) ≡ of_bool a → reduction o TwoValued (bits b xs) ≡ Ok (bit a)
bit_vector_reduced o b xs a h =
    ap (λ g. g >>= λ ys. Ok (logic_value TwoValued (reduced o ys))) (bits_read b xs) ∙ ap (λ c. Ok (logic_value TwoValued c)) h ∙ ap (λ v. Ok v) (bit_made a)

pub bit_reductions_are : (j : Junction) (b : Bounds) (xs : List Bool) → reduction (operator_of j) TwoValued (bits b xs) ≡ Ok (vd_bit_reduction j xs)
bit_reductions_are j b xs = bit_vector_reduced (operator_of j) b xs (taken_together (of_bits j) (of_none j) xs) (bits_reduced j xs)

pub denied_bit_reductions : (j : Junction) (b : Bounds) (xs : List Bool) → reduction (denied j) TwoValued (bits b xs) ≡ negated TwoValued (vd_bit_reduction j xs)
denied_bit_reductions j b xs =
    let a = taken_together (of_bits j) (of_none j) xs in
    bit_vector_reduced (denied j) b xs (not a) (denied_values j (map of_bool xs) ∙ ap not_of (bits_reduced j xs) ∙ not_bit a) ∙ sym (bit_negated a)

-- ---- an array and a scalar

read_one : {A : Type 0} (t : LogicType) (l r : Value Scalar) (xs : List Logic) (y : Logic) (f : List Logic → Logic → OrStop A) → logics_in t l ≡ Ok xs → logic_in t r ≡ Ok y →
    (logics_in t l >>= λ us. logic_in t r >>= λ w. f us w) ≡ f xs y
read_one t l r xs y f h g = ap (λ q. q >>= λ us. logic_in t r >>= λ w. f us w) h ∙ ap (λ q. q >>= λ w. f xs w) g

read_other : {A : Type 0} (t : LogicType) (l r : Value Scalar) (x : Logic) (ys : List Logic) (f : Logic → List Logic → OrStop A) → logic_in t l ≡ Ok x → logics_in t r ≡ Ok ys →
    (logic_in t l >>= λ w. logics_in t r >>= λ us. f w us) ≡ f x ys
read_other t l r x ys f h g = ap (λ q. q >>= λ w. logics_in t r >>= λ us. f w us) h ∙ ap (λ q. q >>= λ us. f x us) g

mapped : {A B : Type 0} (f g : A → B) → ((x : A) → f x ≡ g x) → (xs : List A) → map f xs ≡ map g xs
mapped f g h [] = refl
mapped f g h (x ∷ xs) = (λ i. h x i ∷ mapped f g h xs i)

mapped_twice : {A B C : Type 0} (g : B → C) (f : A → B) (xs : List A) → map g (map f xs) ≡ map (λ x. g (f x)) xs
mapped_twice g f [] = refl
mapped_twice g f (x ∷ xs) = ap (λ ys. g (f x) ∷ ys) (mapped_twice g f xs)

values_each : (o : LogicalOperator) (b : Bounds) (xs : List Logic) (y : Logic) (f : Logic → Logic) → ((x : Logic) → logical_of o x y ≡ f x) →
    logical o NineValued (values b xs) (value y) ≡ vector (map f xs)
values_each o b xs y f h =
    read_one NineValued (values b xs) (value y) xs y (λ us w. result_array NineValued b (map (λ x. logical_of o x w) us)) (values_read b xs) (value_read y)
    ∙ ap (λ us. result_array NineValued b us) (mapped (λ x. logical_of o x y) f h xs)
    ∙ vector_made b (map f xs)

value_each : (o : LogicalOperator) (x : Logic) (b : Bounds) (ys : List Logic) (f : Logic → Logic) → ((y : Logic) → logical_of o x y ≡ f y) →
    logical o NineValued (value x) (values b ys) ≡ vector (map f ys)
value_each o x b ys f h =
    read_other NineValued (value x) (values b ys) x ys (λ w us. result_array NineValued b (map (λ y. logical_of o w y) us)) (value_read x) (values_read b ys)
    ∙ ap (λ us. result_array NineValued b us) (mapped (λ y. logical_of o x y) f h ys)
    ∙ vector_made b (map f ys)

pair_joined : (j : Junction) (x y : Logic) → logical_of (operator_of j) x y ≡ of_values j x y
pair_joined Conjunction x y = refl
pair_joined Disjunction x y = refl
pair_joined Exclusion x y = refl

pair_denied : (j : Junction) (x y : Logic) → logical_of (denied j) x y ≡ not_of (of_values j x y)
pair_denied j x y = denied_pair j x y ∙ ap not_of (pair_joined j x y)

vector_negated : (b : Bounds) (xs : List Logic) → negated NineValued (values b xs) ≡ vector (map not_of xs)
vector_negated b xs = ap (λ g. g >>= λ ys. result_array NineValued b (map not_of ys)) (values_read b xs) ∙ vector_made b (map not_of xs)

negated_by_length : (too_long : Bool) (ys : List Logic) → nat_lt 2147483647 (length ys) ≡ too_long
    → (((if too_long then Err Index else Ok (from_one (length ys))) >>= λ b. Ok (values b ys)) >>= negated NineValued) ≡ vector (map not_of ys)
negated_by_length true ys h =
    sym (ap (λ u. (if u then Err Index else Ok (from_one (length (map not_of ys)))) >>= λ b. Ok (values b (map not_of ys))) (ap (nat_lt 2147483647) (length-map ys not_of) ∙ h))
negated_by_length false ys h = vector_negated (from_one (length ys)) ys

not_each : (f : Logic → Logic) (xs : List Logic) → vector (map (λ x. not_of (f x)) xs) ≡ (vector (map f xs) >>= negated NineValued)
not_each f xs = ap vector (sym (mapped_twice not_of f xs)) ∙ sym (negated_by_length (nat_lt 2147483647 (length (map f xs))) (map f xs) refl)

pub vs_are : (j : Junction) (b : Bounds) (xs : List Logic) (y : Logic) → logical (operator_of j) NineValued (values b xs) (value y) ≡ vd_vs j xs y
vs_are j b xs y = values_each (operator_of j) b xs y (λ x. of_values j x y) (λ x. pair_joined j x y)

pub sv_are : (j : Junction) (x : Logic) (b : Bounds) (ys : List Logic) → logical (operator_of j) NineValued (value x) (values b ys) ≡ vd_sv j x ys
sv_are j x b ys = value_each (operator_of j) x b ys (λ y. of_values j x y) (λ y. pair_joined j x y)

pub denied_vs : (j : Junction) (b : Bounds) (xs : List Logic) (y : Logic) → logical (denied j) NineValued (values b xs) (value y) ≡ (vd_vs j xs y >>= negated NineValued)
denied_vs j b xs y = values_each (denied j) b xs y (λ x. not_of (of_values j x y)) (λ x. pair_denied j x y) ∙ not_each (λ x. of_values j x y) xs

pub denied_sv : (j : Junction) (x : Logic) (b : Bounds) (ys : List Logic) → logical (denied j) NineValued (value x) (values b ys) ≡ (vd_sv j x ys >>= negated NineValued)
denied_sv j x b ys = value_each (denied j) x b ys (λ y. not_of (of_values j x y)) (λ y. pair_denied j x y) ∙ not_each (λ y. of_values j x y) ys

mapped_bits : (g : Logic → Logic) (f : Bool → Bool) → ((x : Bool) → g (of_bool x) ≡ of_bool (f x)) → (xs : List Bool) → map g (map of_bool xs) ≡ map of_bool (map f xs)
mapped_bits g f h [] = refl
mapped_bits g f h (x ∷ xs) = (λ i. h x i ∷ mapped_bits g f h xs i)

bits_each_made : (b : Bounds) (xs : List Bool) (g : Logic → Logic) (f : Bool → Bool) → ((x : Bool) → g (of_bool x) ≡ of_bool (f x)) → length xs ≡ length_of b →
    result_array TwoValued b (map g (map of_bool xs)) ≡ Ok (bits b (map f xs))
bits_each_made b xs g f h n = ap (λ us. result_array TwoValued b us) (mapped_bits g f h xs) ∙ bits_made b (map f xs) (length-map xs f ∙ n)

bits_each : (o : LogicalOperator) (b : Bounds) (xs : List Bool) (y : Bool) (f : Bool → Bool) → ((x : Bool) → logical_of o (of_bool x) (of_bool y) ≡ of_bool (f x)) → length xs ≡ length_of b →
    logical o TwoValued (bits b xs) (bit y) ≡ Ok (bits b (map f xs))
bits_each o b xs y f h n =
    read_one TwoValued (bits b xs) (bit y) (map of_bool xs) (of_bool y) (λ us w. result_array TwoValued b (map (λ x. logical_of o x w) us)) (bits_read b xs) (bit_read y)
    ∙ bits_each_made b xs (λ x. logical_of o x (of_bool y)) f h n

bit_each : (o : LogicalOperator) (x : Bool) (b : Bounds) (ys : List Bool) (f : Bool → Bool) → ((y : Bool) → logical_of o (of_bool x) (of_bool y) ≡ of_bool (f y)) → length ys ≡ length_of b →
    logical o TwoValued (bit x) (bits b ys) ≡ Ok (bits b (map f ys))
bit_each o x b ys f h n =
    read_other TwoValued (bit x) (bits b ys) (of_bool x) (map of_bool ys) (λ w us. result_array TwoValued b (map (λ y. logical_of o w y) us)) (bit_read x) (bits_read b ys)
    ∙ bits_each_made b ys (λ y. logical_of o (of_bool x) y) f h n

bits_negated : (b : Bounds) (xs : List Bool) → length xs ≡ length_of b → negated TwoValued (bits b xs) ≡ Ok (bits b (map not xs))
bits_negated b xs n = ap (λ g. g >>= λ ys. result_array TwoValued b (map not_of ys)) (bits_read b xs) ∙ bits_each_made b xs not_of not not_bit n

not_each_bit : (b : Bounds) (f : Bool → Bool) (xs : List Bool) → length xs ≡ length_of b → Ok (bits b (map (λ x. not (f x)) xs)) ≡ negated TwoValued (bits b (map f xs))
not_each_bit b f xs n = ap (λ ys. Ok (bits b ys)) (sym (mapped_twice not f xs)) ∙ sym (bits_negated b (map f xs) (length-map xs f ∙ n))

pub bvs_are : (j : Junction) (b : Bounds) (xs : List Bool) (y : Bool) → length xs ≡ length_of b → logical (operator_of j) TwoValued (bits b xs) (bit y) ≡ Ok (vd_bvs j b xs y)
bvs_are j b xs y n = bits_each (operator_of j) b xs y (λ x. of_bits j x y) (λ x. bits_joined j x y) n

pub bsv_are : (j : Junction) (x : Bool) (b : Bounds) (ys : List Bool) → length ys ≡ length_of b → logical (operator_of j) TwoValued (bit x) (bits b ys) ≡ Ok (vd_bsv j x b ys)
bsv_are j x b ys n = bit_each (operator_of j) x b ys (λ y. of_bits j x y) (λ y. bits_joined j x y) n

pub denied_bvs : (j : Junction) (b : Bounds) (xs : List Bool) (y : Bool) → length xs ≡ length_of b → logical (denied j) TwoValued (bits b xs) (bit y) ≡ negated TwoValued (vd_bvs j b xs y)
denied_bvs j b xs y n = bits_each (denied j) b xs y (λ x. not (of_bits j x y)) (λ x. bits_denied j x y) n ∙ not_each_bit b (λ x. of_bits j x y) xs n

pub denied_bsv : (j : Junction) (x : Bool) (b : Bounds) (ys : List Bool) → length ys ≡ length_of b → logical (denied j) TwoValued (bit x) (bits b ys) ≡ negated TwoValued (vd_bsv j x b ys)
denied_bsv j x b ys n = bit_each (denied j) x b ys (λ y. not (of_bits j x y)) (λ y. bits_denied j x y) n ∙ not_each_bit b (λ y. of_bits j x y) ys n

-- ---- shifts

listed : (ys : List Logic) (n : ℕ) (f : ℕ → Logic) → length ys ≡ n → ((k : ℕ) → k < n → get_or ys k Zero ≡ f k) → ys ≡ by_places n f
listed [] zero f h g = refl
listed [] (suc n) f h g = absurd (omega arith)
listed (y ∷ ys) zero f h g = absurd (omega arith)
listed (y ∷ ys) (suc n) f h g =
    let some : 0 < suc n = omega arith in
    let rest : ys ≡ by_places n (λ k. f (suc k)) = listed ys n (λ k. f (suc k)) (omega arith) (λ k below. let more : suc k < suc n = omega arith in g (suc k) more) in
    (λ i. g 0 some i ∷ rest i)

moved_so : (o : ShiftOperator) (n : ℤ) (b : Bounds) (xs : List Logic) (f : ℕ → Logic) → ((k : ℕ) → k < length xs → get_or (shifted o n xs) k Zero ≡ f k) →
    shift o NineValued (values b xs) n ≡ vector (by_places (length xs) f)
moved_so o n b xs f h =
    ap (λ g. g >>= λ ys. result_array NineValued b (shifted o n ys)) (values_read b xs)
    ∙ vector_made b (shifted o n xs)
    ∙ ap vector (listed (shifted o n xs) (length xs) f (shifts_long o n xs) h)

pub sll_is : (b : Bounds) (xs : List Logic) (n : ℤ) → shift LogicalLeft NineValued (values b xs) n ≡ moved from_right from_left xs n
sll_is b xs (pos n) = moved_so LogicalLeft (pos n) b xs (from_right n xs) (λ k h. shifts_left n xs k h)
sll_is b xs (negsuc n) = moved_so LogicalLeft (negsuc n) b xs (from_left (suc n) xs) (λ k h. shifts_right (suc n) xs k h)

pub srl_is : (b : Bounds) (xs : List Logic) (n : ℤ) → shift LogicalRight NineValued (values b xs) n ≡ moved from_left from_right xs n
srl_is b xs (pos n) = moved_so LogicalRight (pos n) b xs (from_left n xs) (λ k h. shifts_right n xs k h)
srl_is b xs (negsuc n) = moved_so LogicalRight (negsuc n) b xs (from_right (suc n) xs) (λ k h. shifts_left (suc n) xs k h)

pub rol_is : (b : Bounds) (xs : List Logic) (n : ℤ) → shift RotateLeft NineValued (values b xs) n ≡ moved round_left round_right xs n
rol_is b xs (pos n) = moved_so RotateLeft (pos n) b xs (round_left n xs) (λ k h. rotations_left n xs k h)
rol_is b xs (negsuc n) = moved_so RotateLeft (negsuc n) b xs (round_right (suc n) xs) (λ k h. rotations_right (suc n) xs k h)

pub ror_is : (b : Bounds) (xs : List Logic) (n : ℤ) → shift RotateRight NineValued (values b xs) n ≡ moved round_right round_left xs n
ror_is b xs (pos n) = moved_so RotateRight (pos n) b xs (round_right n xs) (λ k h. rotations_right n xs k h)
ror_is b xs (negsuc n) = moved_so RotateRight (negsuc n) b xs (round_left (suc n) xs) (λ k h. rotations_left (suc n) xs k h)

-- ---- dashes

dash_later : (x : Logic) (xs : List Logic) → SomeIndex xs (λ place. slice_index_or xs place U ≡ Dash) → SomeIndex (x ∷ xs) (λ place. slice_index_or (x ∷ xs) place U ≡ Dash)
dash_later x xs (place, below, here) = (suc place, omega arith, here)

dash_here : (xs : List Logic) → has_dash xs ≡ true → SomeIndex xs (λ place. slice_index_or xs place U ≡ Dash)
dash_here [] h = absurd cc
dash_here (Dash ∷ xs) h = (0, omega arith, refl)
dash_here (U ∷ xs) h = dash_later U xs (dash_here xs h)
dash_here (X ∷ xs) h = dash_later X xs (dash_here xs h)
dash_here (Zero ∷ xs) h = dash_later Zero xs (dash_here xs h)
dash_here (One ∷ xs) h = dash_later One xs (dash_here xs h)
dash_here (Z ∷ xs) h = dash_later Z xs (dash_here xs h)
dash_here (W ∷ xs) h = dash_later W xs (dash_here xs h)
dash_here (L ∷ xs) h = dash_later L xs (dash_here xs h)
dash_here (H ∷ xs) h = dash_later H xs (dash_here xs h)

dash_kept : (x : Logic) (xs : List Logic) → has_dash xs ≡ true → has_dash (x ∷ xs) ≡ true
dash_kept U xs h = h
dash_kept X xs h = h
dash_kept Zero xs h = h
dash_kept One xs h = h
dash_kept Z xs h = h
dash_kept W xs h = h
dash_kept L xs h = h
dash_kept H xs h = h
dash_kept Dash xs h = refl

dash_seen : (xs : List Logic) (place : ℕ) → get_or xs place U ≡ Dash → has_dash xs ≡ true
dash_seen [] place h = absurd cc
dash_seen (x ∷ xs) zero h = ap (λ y. has_dash (y ∷ xs)) h
dash_seen (x ∷ xs) (suc place) h = dash_kept x xs (dash_seen xs place h)

pub dashes_are : (xs : List Logic) → (has_dash xs ≡ true) ↔ SomeIndex xs (λ place. slice_index_or xs place U ≡ Dash)
dashes_are xs = (dash_here xs, λ s. dash_seen xs s.0 s.2)
