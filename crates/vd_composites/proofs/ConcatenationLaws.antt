-- A concatenation has the elements of its operands, and `&` is associative.
use Rattle.std.proofs.Common.{◌≡◌, ◌<◌, ◌≤◌, ℕ, zero, suc, ◌+◌, ℤ, Bool, true, false, Option, None, refl, sym, ap, ◌∙◌, subst, arith}
use Rattle.std.proofs.lemmas.Int.{ints}
use Rattle.std.proofs.lemmas.Bool.Decides.{nat_tests}
use Rattle.std.specs.Prelude.{Ok, Err, ◌==◌, ◌&&◌, ◌||◌}
use Rattle.vd_values.specs.declared.scalar.Scalar.{Scalar}
use Rattle.vd_values.specs.declared.scalar.StopKind.TheVariants.{Range, Index}
use Rattle.vd_composites.specs.declared.ranges.Bounds.{Bounds}
use Rattle.vd_composites.specs.declared.scalars.ScalarSubtype.{ScalarSubtype}
use Rattle.vd_composites.specs.Stops.{◌>>=◌}
use Rattle.vd_composites.specs.Ranges.{length_of, is_null, is_within, lies_within, index_at, steps_on, one_before, from_left}
use Rattle.vd_composites.specs.Composites.{Array, Items, count, joined}
use Rattle.vd_composites.specs.Parts.{array_of}
use Rattle.vd_composites.specs.Subtypes.{Subtype, Arrays, HasSubtype}
use Rattle.vd_composites.specs.Concatenations.{Operand, Whole, array_on, elements_of, concatenation}
use Rattle.vd_composites.specs.Laws.{Concatenates, ConcatenationIsAssociative}
use Rattle.vd_composites.specs.Composites.{items_in}
use Rattle.vd_composites.proofs.RangeLemmas.{both_true, and_true, index_within, place_below, place_of_index, length_from_left}
use Rattle.vd_composites.proofs.ItemLemmas.{count_joined, joined_assoc}
use Rattle.vd_composites.proofs.StopLemmas.{ok_same, if_ok, if_true, if_false, test_same, same_test}
use Rattle.vd_composites.proofs.FitLaws.{null_lies_within}

-- the bounds of so many elements of a type
abbrev pub own_bounds : ScalarSubtype → ℕ → Bounds
own_bounds index n = from_left index.range.left index.range.down n

pub one_back : (down : Bool) (i : ℤ) (n : ℕ) → one_before down (steps_on down i (suc n)) ≡ steps_on down i n
one_back true i n = omega (arith, ints)
one_back false i n = omega (arith, ints)

pub no_step : (down : Bool) (i : ℤ) → steps_on down i 0 ≡ i
no_step true i = omega (arith, ints)
no_step false i = omega (arith, ints)

pub some_lie : (index : ScalarSubtype) (n : ℕ) → lies_within index.range (own_bounds index (suc n)) ≡ true → n < length_of index.range
some_lie index n h =
    let long : length_of (own_bounds index (suc n)) ≡ suc n = length_from_left index.range.left index.range.down (suc n) in
    let some : is_null (own_bounds index (suc n)) ≡ false = ap (λ m. m == 0) long ∙ (let e : (suc n == 0) ≡ false = grind (arith, nat_tests) in e) in
    let both = is_within index.range (own_bounds index (suc n)).left && is_within index.range (own_bounds index (suc n)).right in
    let two = both_true (is_within index.range (own_bounds index (suc n)).left) (is_within index.range (own_bounds index (suc n)).right) (ap (λ t. t || both) (sym some) ∙ h) in
    let last : is_within index.range (index_at index.range n) ≡ true = subst (λ i. is_within index.range i ≡ true) (one_back index.range.down index.range.left n) two.1 in
    subst (λ m. m < length_of index.range) (place_of_index index.range n) (place_below index.range (index_at index.range n) last)

or_true : (a b : Bool) → b ≡ true → (a || b) ≡ true
or_true true b h = refl
or_true false b h = h

-- as many as the index subtype has, and none, lie within it
pub all_lie : (index : ScalarSubtype) (n : ℕ) → (0 < n → n ≤ length_of index.range) → lies_within index.range (own_bounds index n) ≡ true
all_lie index zero h = null_lies_within index.range (own_bounds index 0) (length_from_left index.range.left index.range.down 0)
all_lie index (suc n) h =
    let room : suc n ≤ length_of index.range = h (omega arith) in
    let left : is_within index.range index.range.left ≡ true = subst (λ i. is_within index.range i ≡ true) (no_step index.range.down index.range.left) (index_within index.range 0 (omega arith)) in
    let right : is_within index.range (own_bounds index (suc n)).right ≡ true = subst (λ i. is_within index.range i ≡ true) (sym (one_back index.range.down index.range.left n)) (index_within index.range n (omega arith)) in
    or_true (is_null (own_bounds index (suc n))) (is_within index.range index.range.left && is_within index.range (own_bounds index (suc n)).right)
    (and_true (is_within index.range index.range.left) (is_within index.range (own_bounds index (suc n)).right) left right)

-- where some fit the index type, fewer do
pub fewer_lie : (index : ScalarSubtype) (m n : ℕ) → n ≤ m → lies_within index.range (own_bounds index m) ≡ true → lies_within index.range (own_bounds index n) ≡ true
fewer_lie index zero n h f = all_lie index n (λ some. absurd (omega arith))
fewer_lie index (suc m) n h f = let room : m < length_of index.range = some_lie index m f in all_lie index n (λ some. omega arith)

more_by : (index : ScalarSubtype) (m n : ℕ) → n ≤ m → (t : Bool) → lies_within index.range (own_bounds index m) ≡ t → lies_within index.range (own_bounds index n) ≡ false → t ≡ false
more_by index m n h true e f = sym (fewer_lie index m n h e) ∙ f
more_by index m n h false e f = refl

more_do_not : (index : ScalarSubtype) (m n : ℕ) → n ≤ m → lies_within index.range (own_bounds index n) ≡ false → lies_within index.range (own_bounds index m) ≡ false
more_do_not index m n h f = more_by index m n h (lies_within index.range (own_bounds index m)) refl f

-- elements that fit the index type are an array, others stop with Index
on_true : (index : ScalarSubtype) (vs : Items Scalar) → lies_within index.range (own_bounds index (count vs)) ≡ true → array_on index vs ≡ Ok (Array (own_bounds index (count vs)) vs)
on_true index vs h =
    if_true (lies_within index.range (own_bounds index (count vs))) (array_of (own_bounds index (count vs)) vs) (Err Index) h
    ∙ if_true (count vs == length_of (own_bounds index (count vs))) (Ok (Array (own_bounds index (count vs)) vs)) (Err Range)
    (same_test (count vs) (length_of (own_bounds index (count vs))) (sym (length_from_left index.range.left index.range.down (count vs))))

on_false : (index : ScalarSubtype) (vs : Items Scalar) → lies_within index.range (own_bounds index (count vs)) ≡ false → array_on index vs ≡ Err Index
on_false index vs h = if_false (lies_within index.range (own_bounds index (count vs))) (array_of (own_bounds index (count vs)) vs) (Err Index) h

-- the operator from the elements of its operands
from_elements : (index : ScalarSubtype) (bounds : Option Bounds) (element : Subtype) (l r : Operand) (vs ws : Items Scalar) → elements_of element l ≡ Ok vs → elements_of element r ≡ Ok ws → concatenation (Arrays index bounds element) l r ≡ array_on index (joined vs ws)
from_elements index bounds element l r vs ws h k =
    ap (λ g. g >>= λ us. elements_of element r >>= λ xs. array_on index (joined us xs)) h ∙ ap (λ g. g >>= λ xs. array_on index (joined vs xs)) k

pub concatenates : Concatenates
concatenates l r index bounds element vs ws w h k e =
    let us = joined vs ws in
    let own = own_bounds index (count us) in
    let two = if_ok (lies_within index.range own) (array_of own us) Index w (sym (from_elements index bounds element l r vs ws h k) ∙ e) in
    let three = if_ok (count us == length_of own) (Ok (Array own us)) Range w two.1 in
    subst (λ u. (items_in u ≡ us) × HasSubtype (Arrays index None element) u) (ok_same (Array own us) w three.1)
    (refl, (two.0, test_same (count us) (length_of own) three.0))

grown_left : (index : ScalarSubtype) (bounds : Option Bounds) (element : Subtype) (xs ws : Items Scalar) (m : Operand) → elements_of element m ≡ Ok ws → (t : Bool) → lies_within index.range (own_bounds index (count xs)) ≡ t → (array_on index xs >>= λ x. concatenation (Arrays index bounds element) (Whole x) m) ≡ array_on index (joined xs ws)
grown_left index bounds element xs ws m h true e =
    ap (λ g. g >>= λ x. concatenation (Arrays index bounds element) (Whole x) m) (on_true index xs e)
    ∙ from_elements index bounds element (Whole (Array (own_bounds index (count xs)) xs)) m xs ws refl h
grown_left index bounds element xs ws m h false e =
    ap (λ g. g >>= λ x. concatenation (Arrays index bounds element) (Whole x) m) (on_false index xs e)
    ∙ sym (on_false index (joined xs ws) (more_do_not index (count (joined xs ws)) (count xs) (let c : count (joined xs ws) ≡ count xs + count ws = count_joined xs ws in omega arith) e))

grown_right : (index : ScalarSubtype) (bounds : Option Bounds) (element : Subtype) (us xs : Items Scalar) (k : Operand) → elements_of element k ≡ Ok us → (t : Bool) → lies_within index.range (own_bounds index (count xs)) ≡ t → (array_on index xs >>= λ y. concatenation (Arrays index bounds element) k (Whole y)) ≡ array_on index (joined us xs)
grown_right index bounds element us xs k h true e =
    ap (λ g. g >>= λ y. concatenation (Arrays index bounds element) k (Whole y)) (on_true index xs e)
    ∙ from_elements index bounds element k (Whole (Array (own_bounds index (count xs)) xs)) us xs h refl
grown_right index bounds element us xs k h false e =
    ap (λ g. g >>= λ y. concatenation (Arrays index bounds element) k (Whole y)) (on_false index xs e)
    ∙ sym (on_false index (joined us xs) (more_do_not index (count (joined us xs)) (count xs) (let c : count (joined us xs) ≡ count us + count xs = count_joined us xs in omega arith) e))

pub concatenation_is_associative : ConcatenationIsAssociative
concatenation_is_associative index bounds element k l m us vs ws hk hl hm =
    ap (λ g. g >>= λ x. concatenation (Arrays index bounds element) (Whole x) m) (from_elements index bounds element k l us vs hk hl)
    ∙ grown_left index bounds element (joined us vs) ws m hm (lies_within index.range (own_bounds index (count (joined us vs)))) refl
    ∙ ap (array_on index) (joined_assoc us vs ws)
    ∙ sym (ap (λ g. g >>= λ y. concatenation (Arrays index bounds element) k (Whole y)) (from_elements index bounds element l m vs ws hl hm)
    ∙ grown_right index bounds element us (joined vs ws) k hk (lies_within index.range (own_bounds index (count (joined vs ws)))) refl)
