-- Ranges: places and indexes, lengths.
use Rattle.std.proofs.Common.{◌≡◌, ◌<◌, ℕ, suc, ◌+◌, ◌-◌, ℤ, pos, negsuc, ◌+ℤ◌, ◌-ℤ◌, Bool, true, false, refl, ap, ◌∙◌, subst, arith}
use Rattle.std.proofs.lemmas.Int.{ints}
use Rattle.std.specs.Prelude.{int_le, ◌&&◌}
use Rattle.vd_composites.specs.declared.ranges.Bounds.{Bounds}
use Rattle.vd_composites.specs.Ranges.{size_of, length_of, is_within, place_of, index_at, steps_on, from_left}
use Rattle.vd_composites.specs.Laws.{PlacesAreIndexes}

pub size_is : (z : ℤ) (n : ℕ) → z ≡ pos n → size_of z ≡ n
size_is z n e = ap size_of e

pub length_from_left : (left : ℤ) (down : Bool) (n : ℕ) → length_of (from_left left down n) ≡ n
length_from_left left true n = let e : left -ℤ (left -ℤ pos n +ℤ pos 1) +ℤ pos 1 ≡ pos n = omega (arith, ints) in size_is (left -ℤ (left -ℤ pos n +ℤ pos 1) +ℤ pos 1) n e
length_from_left left false n = let e : left +ℤ pos n -ℤ pos 1 -ℤ left +ℤ pos 1 ≡ pos n = omega (arith, ints) in size_is (left +ℤ pos n -ℤ pos 1 -ℤ left +ℤ pos 1) n e

-- the way from one number to one that isn't less
pub way : (i j : ℤ) → int_le i j ≡ true → i +ℤ pos (size_of (j -ℤ i)) ≡ j
way (pos i) (pos j) h = grind (arith, ints)
way (pos i) (negsuc j) h = grind (arith, ints)
way (negsuc i) (pos j) h = grind (arith, ints)
way (negsuc i) (negsuc j) h = grind (arith, ints)

pub no_way_back : (i : ℤ) (n : ℕ) → int_le i (i +ℤ pos n) ≡ true
no_way_back (pos i) n = grind (arith, ints)
no_way_back (negsuc i) n = grind (arith, ints)

pub both_true : (a b : Bool) → (a && b) ≡ true → (a ≡ true) × (b ≡ true)
both_true true b h = (refl, h)
both_true false b h = absurd cc

pub and_true : (a b : Bool) → a ≡ true → b ≡ true → (a && b) ≡ true
and_true a b h k = ap (λ c. c && b) h ∙ k

-- an index that belongs to a range: so many steps behind the left bound, and so many before the right one
pub record Within (b : Bounds) (i : ℤ) : Type 0 where
  pub behind : ℕ
  pub place : index_at b (place_of b i) ≡ i
  pub length : length_of b ≡ suc (place_of b i + behind)

within_up : (l r i : ℤ) → int_le l i ≡ true → int_le i r ≡ true → Within (record { left = l; right = r; down = false }) i
within_up l r i low high =
    let e : l +ℤ pos (size_of (i -ℤ l)) ≡ i = way l i low in
    let f : i +ℤ pos (size_of (r -ℤ i)) ≡ r = way i r high in
    let g : r -ℤ l +ℤ pos 1 ≡ pos (suc (size_of (i -ℤ l) + size_of (r -ℤ i))) = omega (arith, ints) in
    record { behind = size_of (r -ℤ i); place = e; length = size_is (r -ℤ l +ℤ pos 1) (suc (size_of (i -ℤ l) + size_of (r -ℤ i))) g }

within_down : (l r i : ℤ) → int_le r i ≡ true → int_le i l ≡ true → Within (record { left = l; right = r; down = true }) i
within_down l r i low high =
    let e : r +ℤ pos (size_of (i -ℤ r)) ≡ i = way r i low in
    let f : i +ℤ pos (size_of (l -ℤ i)) ≡ l = way i l high in
    let g : l -ℤ r +ℤ pos 1 ≡ pos (suc (size_of (l -ℤ i) + size_of (i -ℤ r))) = omega (arith, ints) in
    record { behind = size_of (i -ℤ r); place = omega (arith, ints); length = size_is (l -ℤ r +ℤ pos 1) (suc (size_of (l -ℤ i) + size_of (i -ℤ r))) g }

within_of : (l r i : ℤ) (down : Bool) → is_within (record { left = l; right = r; down = down }) i ≡ true → Within (record { left = l; right = r; down = down }) i
within_of l r i true h = let two : (int_le r i ≡ true) × (int_le i l ≡ true) = both_true (int_le r i) (int_le i l) h in within_down l r i two.0 two.1
within_of l r i false h = let two : (int_le l i ≡ true) × (int_le i r ≡ true) = both_true (int_le l i) (int_le i r) h in within_up l r i two.0 two.1

pub within : (b : Bounds) (i : ℤ) → is_within b i ≡ true → Within b i
within b i h = within_of b.left b.right i b.down h

-- more than a number of values
more : (z : ℤ) (n : ℕ) → n < size_of z → z ≡ pos (suc n + (size_of z - suc n))
more (pos m) n h = ap pos (omega arith)
more (negsuc m) n h = absurd (omega arith)

index_up : (l r : ℤ) (n : ℕ) → n < size_of (r -ℤ l +ℤ pos 1) → (int_le l (l +ℤ pos n) && int_le (l +ℤ pos n) r) ≡ true
index_up l r n h =
    let e : r -ℤ l +ℤ pos 1 ≡ pos (suc n + (size_of (r -ℤ l +ℤ pos 1) - suc n)) = more (r -ℤ l +ℤ pos 1) n h in
    let f : (l +ℤ pos n) +ℤ pos (size_of (r -ℤ l +ℤ pos 1) - suc n) ≡ r = omega (arith, ints) in
    and_true (int_le l (l +ℤ pos n)) (int_le (l +ℤ pos n) r) (no_way_back l n)
    (subst (λ z. int_le (l +ℤ pos n) z ≡ true) f (no_way_back (l +ℤ pos n) (size_of (r -ℤ l +ℤ pos 1) - suc n)))

index_down : (l r : ℤ) (n : ℕ) → n < size_of (l -ℤ r +ℤ pos 1) → (int_le r (l -ℤ pos n) && int_le (l -ℤ pos n) l) ≡ true
index_down l r n h =
    let e : l -ℤ r +ℤ pos 1 ≡ pos (suc n + (size_of (l -ℤ r +ℤ pos 1) - suc n)) = more (l -ℤ r +ℤ pos 1) n h in
    let f : r +ℤ pos (size_of (l -ℤ r +ℤ pos 1) - suc n) ≡ l -ℤ pos n = omega (arith, ints) in
    let g : (l -ℤ pos n) +ℤ pos n ≡ l = omega (arith, ints) in
    and_true (int_le r (l -ℤ pos n)) (int_le (l -ℤ pos n) l)
    (subst (λ z. int_le r z ≡ true) f (no_way_back r (size_of (l -ℤ r +ℤ pos 1) - suc n)))
    (subst (λ z. int_le (l -ℤ pos n) z ≡ true) g (no_way_back (l -ℤ pos n) n))

index_of : (l r : ℤ) (down : Bool) (n : ℕ) → n < length_of (record { left = l; right = r; down = down }) → is_within (record { left = l; right = r; down = down }) (steps_on down l n) ≡ true
index_of l r true n h = index_down l r n h
index_of l r false n h = index_up l r n h

pub index_within : (b : Bounds) (n : ℕ) → n < length_of b → is_within b (index_at b n) ≡ true
index_within b n h = index_of b.left b.right b.down n h

place_back : (l r : ℤ) (down : Bool) (n : ℕ) → place_of (record { left = l; right = r; down = down }) (steps_on down l n) ≡ n
place_back l r true n = let e : l -ℤ (l -ℤ pos n) ≡ pos n = omega (arith, ints) in size_is (l -ℤ (l -ℤ pos n)) n e
place_back l r false n = let e : l +ℤ pos n -ℤ l ≡ pos n = omega (arith, ints) in size_is (l +ℤ pos n -ℤ l) n e

pub place_of_index : (b : Bounds) (n : ℕ) → place_of b (index_at b n) ≡ n
place_of_index b n = place_back b.left b.right b.down n

pub place_below : (b : Bounds) (i : ℤ) → is_within b i ≡ true → place_of b i < length_of b
place_below b i h = let w : Within b i = within b i h in let e : length_of b ≡ suc (place_of b i + w.behind) = w.length in omega arith

pub index_of_place : (b : Bounds) (i : ℤ) → is_within b i ≡ true → index_at b (place_of b i) ≡ i
index_of_place b i h = (within b i h).place

pub steps_more : (down : Bool) (i : ℤ) (m n : ℕ) → steps_on down (steps_on down i m) n ≡ steps_on down i (m + n)
steps_more true i m n = omega (arith, ints)
steps_more false i m n = omega (arith, ints)

last_of : (l r : ℤ) (down : Bool) (n : ℕ) → length_of (record { left = l; right = r; down = down }) ≡ suc n → steps_on down l n ≡ r
last_of l r true n h =
    let below : n < size_of (l -ℤ r +ℤ pos 1) = omega arith in
    let e : l -ℤ r +ℤ pos 1 ≡ pos (suc n + (size_of (l -ℤ r +ℤ pos 1) - suc n)) = more (l -ℤ r +ℤ pos 1) n below in omega (arith, ints)
last_of l r false n h =
    let below : n < size_of (r -ℤ l +ℤ pos 1) = omega arith in
    let e : r -ℤ l +ℤ pos 1 ≡ pos (suc n + (size_of (r -ℤ l +ℤ pos 1) - suc n)) = more (r -ℤ l +ℤ pos 1) n below in omega (arith, ints)

-- the right bound is the last index
pub right_is_last : (b : Bounds) (n : ℕ) → length_of b ≡ suc n → index_at b n ≡ b.right
right_is_last b n h = last_of b.left b.right b.down n h

pub places_are_indexes : PlacesAreIndexes
places_are_indexes = record {
  place = λ b i h. (place_below b i h, index_of_place b i h);
  index = λ b n h. (index_within b n h, place_of_index b n);
}
