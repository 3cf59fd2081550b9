-- The elements of arrays, and halves of arrays.
use Rattle.std.proofs.Common.{Bool, Err, List, Ok, Some, [], ap, arith, drop, drop_of_length-le, false, get_or, length, pos, refl, subst, suc, sym, true, ℕ, ℤ, ◌+ℤ◌, ◌+◌, ◌++◌, ◌-ℤ◌, ◌-◌, ◌<◌, ◌≤◌, ◌∙◌, ◌∷◌, ◌≡◌}
use Rattle.std.proofs.lemmas.Bool.Decides.{nat_tests}
use Rattle.std.proofs.lemmas.Int.{ints}
use Rattle.std.proofs.lemmas.List.{append_assoc, append-nil, drop_more}
use Rattle.std.specs.Prelude.{IfOk, OnOk, Result, if◌then◌else◌, int_le, int_lt, nat_abs, negsuc, ◌==◌}
use Rattle.vd_composites.specs.Composites.{Array, Fields, Items, One, Value, bounds_of, count, first_of, item, items_in, joined, listed, none, without}
use Rattle.vd_composites.specs.Parts.{AtIndex, AtSlice, array_of, element, is_slice, item_at, part, slice}
use Rattle.vd_composites.specs.Ranges.{is_within, length_of, place_of, size_of}
use Rattle.vd_composites.specs.Stops.{OrStop}
use Rattle.vd_composites.specs.declared.ranges.Bounds.{Bounds}
use Rattle.vd_composites.proofs.ItemLemmas.{count_without, first_all, split_at}
use Rattle.vd_static_values.specs.Levels.{AddsElements, AreSized, IsCounted, IsSized, elements_of, up}
use Rattle.vd_values.specs.declared.scalar.Scalar.{Scalar}
use Rattle.vd_values.specs.declared.scalar.StopKind.{StopKind}
use Rattle.vd_values.specs.declared.scalar.StopKind.TheVariants.{Index, Range}

-- ---- items as lists

listed_joined : (vs ws : Items Scalar) → listed (joined vs ws) ≡ listed vs ++ listed ws
listed_joined none ws = refl
listed_joined (item v vs) ws = ap (λ us. v ∷ us) (listed_joined vs ws)

pub length_listed : (vs : Items Scalar) → length (listed vs) ≡ count vs
length_listed none = refl
length_listed (item v vs) = ap suc (length_listed vs)

pub elements_push : (vs : List (Value Scalar)) (v : Value Scalar) → elements_of (vs ++ v ∷ []) ≡ elements_of vs ++ listed (items_in v)
elements_push [] v = append-nil (listed (items_in v))
elements_push (u ∷ us) v = ap (λ ws. listed (items_in u) ++ ws) (elements_push us v) ∙ sym (append_assoc (listed (items_in u)) (elements_of us) (listed (items_in v)))

pub sized_push : (vs : List (Value Scalar)) (v : Value Scalar) → AreSized vs → IsSized v → AreSized (vs ++ v ∷ [])
sized_push [] v all one = (one, tt)
sized_push (u ∷ us) v all one = (all.0, sized_push us v all.1 one)

pub split : (vs : List (Value Scalar)) (i : ℕ) (v : Value Scalar) → i < length vs → v ≡ get_or vs i v → drop i vs ≡ v ∷ drop (i + 1) vs
split vs i v below here = drop_more vs i v below ∙ ap (λ u. u ∷ drop (i + 1) vs) (sym here)

-- the values behind the first of those that are left, and that one in front of them again
pub sized_rest : (vs : List (Value Scalar)) (i : ℕ) (v : Value Scalar) → i < length vs → v ≡ get_or vs i v → AreSized (drop i vs) → AreSized (drop (i + 1) vs)
sized_rest vs i v below here all = (subst AreSized (split vs i v below here) all).1

pub sized_back : (vs : List (Value Scalar)) (i : ℕ) (v : Value Scalar) → i < length vs → v ≡ get_or vs i v → IsSized v → AreSized (drop (i + 1) vs) → AreSized (drop i vs)
sized_back vs i v below here one rest = subst AreSized (sym (split vs i v below here)) (one, rest)

-- the elements of one value more
pub elements_next : (vs : List (Value Scalar)) (i : ℕ) (v : Value Scalar) (before after want : List (Value Scalar)) → i < length vs → v ≡ get_or vs i v
    → after ≡ before ++ listed (items_in v) → before ++ elements_of (drop i vs) ≡ want → after ++ elements_of (drop (i + 1) vs) ≡ want
elements_next vs i v before after want below here adds so_far =
    ap (λ us. us ++ elements_of (drop (i + 1) vs)) adds ∙ append_assoc before (listed (items_in v)) (elements_of (drop (i + 1) vs))
    ∙ ap (λ us. before ++ elements_of us) (sym (split vs i v below here)) ∙ so_far

pub elements_end : (vs : List (Value Scalar)) (i : ℕ) (made want : List (Value Scalar)) → length vs ≤ i → made ++ elements_of (drop i vs) ≡ want → made ≡ want
elements_end vs i made want end so_far = sym (append-nil made) ∙ ap (λ us. made ++ elements_of us) (sym (drop_of_length-le vs end)) ∙ so_far

-- ---- arrays whose bounds begin with 0

from_zero : (n : ℕ) (z : ℤ) → z ≡ pos n → length_of (up (pos 0) (z -ℤ pos 1)) ≡ n
from_zero n z is = let e : z -ℤ pos 1 -ℤ pos 0 +ℤ pos 1 ≡ pos n = omega (arith, ints) in ap size_of e

counted_is : (array made : Value Scalar) (b : Bounds) (n : ℕ) (z : ℤ) (items : Items Scalar) → bounds_of array ≡ Some b → n ≡ length_of b → z ≡ pos n → items ≡ items_in array
    → made ≡ Array (up (pos 0) (z -ℤ pos 1)) items → count items ≡ length_of (up (pos 0) (z -ℤ pos 1)) → IsCounted array made
counted_is (One x) made b n z items bounded long is there array sized = absurd cc
counted_is (Fields vs) made b n z items bounded long is there array sized = absurd cc
counted_is (Array c vs) made b n z items bounded long is there array sized =
    let same : c ≡ b = cc in
    record {
      own = ap count (sym there) ∙ sized ∙ from_zero n z is ∙ long ∙ ap length_of (sym same);
      sized = subst IsSized (sym array) sized;
      elements = ap items_in array ∙ there;
    }

pub counted_answer : {E : Type 0} (answer : Result (Value Scalar) E) (array : Value Scalar) (b s : Bounds) (n : ℕ) (z : ℤ) (items : Items Scalar) → bounds_of array ≡ Some b → n ≡ length_of b → z ≡ pos n
    → s ≡ up (pos 0) (z -ℤ pos 1) → items ≡ items_in array → IfOk answer (λ made. made ≡ Array s items) → OnOk answer (count items ≡ length_of s) → IfOk answer (λ made. IsCounted array made)
counted_answer (Ok made) array b s n z items bounded long is range there same sized =
    counted_is array made b n z items bounded long is there (same ∙ ap (λ r. Array r items) range) (sized ∙ ap length_of range)
counted_answer (Err e) array b s n z items bounded long is range there same sized = tt

-- ---- halves

ok_same : {A : Type 0} (x y : A) → (let g : OrStop A = Ok x in let h : OrStop A = Ok y in g ≡ h) → x ≡ y
ok_same x y same = cc

if_ok : {A : Type 0} (b : Bool) (g : OrStop A) (e : StopKind) (x : A) → (if b then g else Err e) ≡ Ok x → (b ≡ true) × (g ≡ Ok x)
if_ok true g e x h = (refl, h)
if_ok false g e x h = absurd cc

same_number : (m n : ℕ) → (m == n) ≡ true → m ≡ n
same_number m n is = grind (arith, nat_tests)

-- a slice that there is
record Sliced (b : Bounds) (vs : Items Scalar) (s : Bounds) (w : Value Scalar) : Type 0 where
  is : w ≡ Array s (first_of (length_of s) (without (place_of b s.left) vs))
  sized : count (first_of (length_of s) (without (place_of b s.left) vs)) ≡ length_of s

sliced : (b : Bounds) (vs : Items Scalar) (s : Bounds) (w : Value Scalar) → slice b vs s ≡ Ok w → Sliced b vs s w
sliced b vs s w made =
    let taken : Items Scalar = first_of (length_of s) (without (place_of b s.left) vs) in
    let inside : array_of s taken ≡ Ok w = (if_ok (is_slice b s) (array_of s taken) Index w made).1 in
    let both : ((count taken == length_of s) ≡ true) × ((let g : OrStop (Value Scalar) = Ok (Array s taken) in g) ≡ Ok w) = if_ok (count taken == length_of s) (Ok (Array s taken)) Range w inside in
    record { is = sym (ok_same (Array s taken) w both.1); sized = same_number (count taken) (length_of s) both.0 }

piece_sized : (b : Bounds) (vs : Items Scalar) (s : Bounds) (w : Value Scalar) → Sliced b vs s w → IsSized w
piece_sized b vs s w cut = subst IsSized (sym cut.is) cut.sized

-- the first so many and the others are all
both_parts : (k n : ℕ) (vs : Items Scalar) → count vs ≡ k + n → joined (first_of k vs) (first_of n (without k vs)) ≡ vs
both_parts k n vs all =
    let fits : k ≤ count vs = omega arith in
    let rest : k + count (without k vs) ≡ count vs = count_without k vs fits in
    let few : count (without k vs) ≤ n = omega arith in
    ap (joined (first_of k vs)) (first_all n (without k vs) few) ∙ split_at k vs

size_up : (a z : ℕ) → a ≤ z → length_of (up (pos a) (pos z)) ≡ suc (z - a)
size_up a z most = let e : pos z -ℤ pos a +ℤ pos 1 ≡ pos (suc (z - a)) = omega (arith, ints) in ap size_of e

place_up : (a z i : ℕ) → a ≤ i → place_of (up (pos a) (pos z)) (pos i) ≡ i - a
place_up a z i most = let e : pos i -ℤ pos a ≡ pos (i - a) = omega (arith, ints) in ap size_of e

halves_are : (array first second : Value Scalar) (a m z : ℕ) → IsSized array → bounds_of array ≡ Some (up (pos a) (pos z)) → a ≤ m → m < z
    → part (AtSlice (up (pos a) (pos m))) array ≡ Ok first → part (AtSlice (up (pos (m + 1)) (pos z))) array ≡ Ok second
    → IsSized first × IsSized second × (joined (items_in first) (items_in second) ≡ items_in array)
halves_are (One x) first second a m z sized bounded low high left right = absurd sized
halves_are (Fields vs) first second a m z sized bounded low high left right = absurd sized
halves_are (Array c vs) first second a m z sized bounded low high left right =
    let b : Bounds = up (pos a) (pos z) in
    let same : c ≡ b = cc in
    let one : Sliced b vs (up (pos a) (pos m)) first = sliced b vs (up (pos a) (pos m)) first (ap (λ d. slice d vs (up (pos a) (pos m))) (sym same) ∙ left) in
    let two : Sliced b vs (up (pos (m + 1)) (pos z)) second =
    sliced b vs (up (pos (m + 1)) (pos z)) second (ap (λ d. slice d vs (up (pos (m + 1)) (pos z))) (sym same) ∙ right) in
    let k : ℕ = suc (m - a) in
    let n : ℕ = suc (z - (m + 1)) in
    let first_size : length_of (up (pos a) (pos m)) ≡ k = size_up a m low in
    let second_size : length_of (up (pos (m + 1)) (pos z)) ≡ n = size_up (m + 1) z (omega arith) in
    let first_place : place_of b (pos a) ≡ 0 = place_up a z a (omega arith) ∙ omega arith in
    let second_place : place_of b (pos (m + 1)) ≡ k = place_up a z (m + 1) (omega arith) ∙ omega arith in
    let whole : count vs ≡ k + n = sized ∙ ap length_of same ∙ size_up a z (omega arith) ∙ omega arith in
    let front : items_in first ≡ first_of k vs =
    ap items_in one.is ∙ ap (λ i. first_of i (without (place_of b (pos a)) vs)) first_size ∙ ap (λ i. first_of k (without i vs)) first_place in
    let back : items_in second ≡ first_of n (without k vs) =
    ap items_in two.is ∙ ap (λ i. first_of i (without (place_of b (pos (m + 1))) vs)) second_size ∙ ap (λ i. first_of n (without i vs)) second_place in (
      piece_sized b vs (up (pos a) (pos m)) first one,
      piece_sized b vs (up (pos (m + 1)) (pos z)) second two,
      ap (λ us. joined us (items_in second)) front ∙ ap (joined (first_of k vs)) back ∙ both_parts k n vs whole,
    )

halves_at : (array first second : Value Scalar) (l r : ℤ) (down : Bool) (m : ℕ) → IsSized array → bounds_of array ≡ Some (record { left = l; right = r; down = down }) → down ≡ false
    → int_lt l (pos 0) ≡ false → int_le r l ≡ false → nat_abs l ≤ m → m < nat_abs r → part (AtSlice (up l (pos m))) array ≡ Ok first → part (AtSlice (up (pos (m + 1)) r)) array ≡ Ok second
    → IsSized first × IsSized second × (joined (items_in first) (items_in second) ≡ items_in array)
halves_at array first second (pos a) (pos z) down m sized bounded ascends some more low high left right =
    halves_are array first second a m z sized (bounded ∙ ap (λ d. Some (record { left = pos a; right = pos z; down = d })) ascends) low high left right
halves_at array first second (pos a) (negsuc z) down m sized bounded ascends some more low high left right = absurd cc
halves_at array first second (negsuc a) r down m sized bounded ascends some more low high left right = absurd cc

pub halves_found : (array first second : Value Scalar) (b : Bounds) (m : ℕ) → IsSized array → bounds_of array ≡ Some b → b.down ≡ false → int_lt b.left (pos 0) ≡ false
    → int_le b.right b.left ≡ false → nat_abs b.left ≤ m → m < nat_abs b.right → part (AtSlice (up b.left (pos m))) array ≡ Ok first → part (AtSlice (up (pos (m + 1)) b.right)) array ≡ Ok second
    → IsSized first × IsSized second × (joined (items_in first) (items_in second) ≡ items_in array)
halves_found array first second b m = halves_at array first second b.left b.right b.down m

-- an array in two halves among others
pub halves_added : (old new : List (Value Scalar)) (array first second : Value Scalar) → IsSized first → IsSized second → joined (items_in first) (items_in second) ≡ items_in array
    → new ≡ (old ++ first ∷ []) ++ second ∷ [] → AddsElements old new array
halves_added old new array first second one two both is = record {
  sized = λ all. subst AreSized (sym is) (sized_push (old ++ first ∷ []) second (sized_push old first all one) two);
  elements =
      ap elements_of is ∙ elements_push (old ++ first ∷ []) second ∙ ap (λ us. us ++ listed (items_in second)) (elements_push old first)
      ∙ append_assoc (elements_of old) (listed (items_in first)) (listed (items_in second))
      ∙ ap (λ us. elements_of old ++ us) (sym (listed_joined (items_in first) (items_in second)) ∙ ap listed both);
}

pub whole_added : (old new : List (Value Scalar)) (array : Value Scalar) → IsSized array → new ≡ old ++ array ∷ [] → AddsElements old new array
whole_added old new array one is = record {
  sized = λ all. subst AreSized (sym is) (sized_push old array all one);
  elements = ap elements_of is ∙ elements_push old array;
}

-- ---- arrays of one element or none

single_item : (vs : Items Scalar) → count vs ≡ 1 → (v : Value Scalar) × (vs ≡ item v none)
single_item none one = absurd (omega arith)
single_item (item v none) one = (v, refl)
single_item (item v (item w vs)) one = absurd (omega arith)

left_place : (left right : ℤ) (down : Bool) → place_of (record { left = left; right = right; down = down }) left ≡ 0
left_place left right true = let e : left -ℤ left ≡ pos 0 = omega (arith, ints) in ap size_of e
left_place left right false = let e : left -ℤ left ≡ pos 0 = omega (arith, ints) in ap size_of e

no_items : (vs : Items Scalar) → count vs ≡ 0 → listed vs ≡ []
no_items none empty = refl
no_items (item v vs) empty = absurd (omega arith)

pub single_is : (array made : Value Scalar) (b : Bounds) → IsSized array → bounds_of array ≡ Some b → length_of b ≡ 1 → part (AtIndex b.left) array ≡ Ok made
    → listed (items_in array) ≡ made ∷ []
single_is (One x) made b sized bounded one is = absurd sized
single_is (Fields vs) made b sized bounded one is = absurd sized
single_is (Array c vs) made b sized bounded one is =
    let same : c ≡ b = cc in
    let found : (v : Value Scalar) × (vs ≡ item v none) = single_item vs (sized ∙ ap length_of same ∙ one) in
    let there : item_at (place_of b b.left) vs ≡ Ok made =
    (if_ok (is_within b b.left) (item_at (place_of b b.left) vs) Index made (ap (λ d. element d vs b.left) (sym same) ∙ is)).1 in
    let first : item_at 0 (item found.0 none) ≡ Ok made =
    ap (item_at 0) (sym found.1) ∙ ap (λ n. item_at n vs) (sym (left_place b.left b.right b.down)) ∙ there in
    ap listed found.1 ∙ ap (λ v. v ∷ []) (ok_same found.0 made first)

pub none_is : (array : Value Scalar) (b : Bounds) → IsSized array → bounds_of array ≡ Some b → length_of b ≡ 0 → listed (items_in array) ≡ []
none_is (One x) b sized bounded empty = absurd sized
none_is (Fields vs) b sized bounded empty = absurd sized
none_is (Array c vs) b sized bounded empty = let same : c ≡ b = cc in no_items vs (sized ∙ ap length_of same ∙ empty)
