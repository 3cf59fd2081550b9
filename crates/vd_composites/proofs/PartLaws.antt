-- What is put into a value is read there, and all else as before.
use Rattle.std.proofs.Common.{◌≡◌, ◌<◌, ◌≤◌, ℕ, zero, suc, ◌+◌, ◌-◌, ℤ, Bool, true, false, inl, inr, refl, sym, ap, ◌∙◌, subst, arith}
use Rattle.std.specs.Prelude.{◌≢◌, Ok, Err, ◌==◌, ◌&&◌, ◌||◌, ◌⊎◌}
use Rattle.std.proofs.lemmas.Bool.Decides.{nat_tests}
use Rattle.vd_values.specs.declared.scalar.StopKind.TheVariants.{Range, Index, Length}
use Rattle.vd_composites.specs.declared.ranges.Bounds.{Bounds}
use Rattle.vd_composites.specs.Stops.{OrStop, ◌>>=◌}
use Rattle.vd_composites.specs.Ranges.{length_of, is_within, lies_within, place_of, index_at, steps_on, same_direction}
use Rattle.vd_composites.specs.Composites.{Value, One, Array, Fields, Items, none, item, count, joined, without, first_of, written}
use Rattle.vd_composites.specs.Parts.{first_item, item_at, element, array_of, is_slice, slice, Step, AtIndex, AtSlice, AtField, part, with_slice, with_new, with_part}
use Rattle.vd_composites.specs.Laws.{as_part, IsApart, PartsAgree}
use Rattle.vd_composites.specs.Composites.{items_in}
use Rattle.vd_composites.proofs.RangeLemmas.{both_true, index_within, index_of_place, place_below, place_of_index, steps_more, right_is_last}
use Rattle.vd_composites.proofs.ItemLemmas.{first_joined, without_more, item_of_first, item_there, written_there, before_written, behind_written, written_none, written_back}
use Rattle.vd_composites.proofs.StopLemmas.{ok_same, got, if_ok, if_true, if_same, test_same, same_test, less_or_more}

no_value : {L : Type 0} {P : Type 0} (w : Value L) → (let g : OrStop (Value L) = Err Range in g ≡ Ok w) → P
no_value w h = absurd cc

-- ---- items

-- the item at a place that has one, put in
item_written : {L : Type 0} (k : ℕ) (new : Value L) (vs : Items L) → k < count vs → item_at k (written k (item new none) vs) ≡ Ok new
item_written k new vs h = ap first_item (written_there k (item new none) vs (omega arith))

item_beside : {L : Type 0} (k n : ℕ) (new : Value L) (vs : Items L) → n < count vs → (k ≡ n → ⊥) → item_at k (written n (item new none) vs) ≡ item_at k vs
item_beside k n new vs h apart =
    let one : count (item new none) ≡ 1 = refl in
    elim (less_or_more k n apart) [
      | inl below ↦ before_written k n (item new none) vs (omega arith) below
      | inr above ↦ behind_written k n (item new none) vs (omega arith) (omega arith)
    ]

front_of_one : {L : Type 0} (vs : Items L) (p : Value L) → first_item vs ≡ Ok p → first_of 1 vs ≡ item p none
front_of_one none p h = no_value p h
front_of_one (item v vs) p h = ap (λ u. item u none) (ok_same v p h)

item_back : {L : Type 0} (k : ℕ) (vs : Items L) (p : Value L) → item_at k vs ≡ Ok p → written k (item p none) vs ≡ vs
item_back k vs p h = written_back k (item p none) vs (front_of_one (without k vs) p h)

-- ---- elements

record ElementRead {L : Type 0} (b : Bounds) (vs : Items L) (i : ℤ) (p : Value L) : Type 0 where
  inside : is_within b i ≡ true
  there : item_at (place_of b i) vs ≡ Ok p
  below : place_of b i < count vs

element_read : {L : Type 0} (b : Bounds) (vs : Items L) (i : ℤ) (p : Value L) → element b vs i ≡ Ok p → ElementRead b vs i p
element_read b vs i p h =
    let two = if_ok (is_within b i) (item_at (place_of b i) vs) Index p h in
    record { inside = two.0; there = two.1; below = item_there (place_of b i) vs p two.1 }

record Replaced {L : Type 0} (b : Bounds) (vs : Items L) (i : ℤ) (new w : Value L) : Type 0 where
  old : Value L
  read : ElementRead b vs i old
  is_written : Array b (written (place_of b i) (item new none) vs) ≡ w

replaced : {L : Type 0} (b : Bounds) (vs : Items L) (i : ℤ) (new w : Value L) → with_part (AtIndex i) new (Array b vs) ≡ Ok w → Replaced b vs i new w
replaced b vs i new w h =
    let two = got (element b vs i) (λ old. with_new (AtIndex i) new (Array b vs)) w h in
    record { old = two.value; read = element_read b vs i two.value two.first; is_written = ok_same (Array b (written (place_of b i) (item new none) vs)) w two.second }

index_written : {L : Type 0} (b : Bounds) (vs : Items L) (i : ℤ) (new w : Value L) → Replaced b vs i new w → part (AtIndex i) w ≡ Ok new
index_written b vs i new w r =
    let ws = written (place_of b i) (item new none) vs in
    subst (λ u. part (AtIndex i) u ≡ Ok new) r.is_written
    (if_true (is_within b i) (item_at (place_of b i) ws) (Err Index) r.read.inside ∙ item_written (place_of b i) new vs r.read.below)

index_others : {L : Type 0} (b : Bounds) (vs : Items L) (i j : ℤ) (new w : Value L) → i ≢ j → Replaced b vs i new w → part (AtIndex j) w ≡ part (AtIndex j) (Array b vs)
index_others b vs i j new w apart r =
    let ws = written (place_of b i) (item new none) vs in
    subst (λ u. part (AtIndex j) u ≡ part (AtIndex j) (Array b vs)) r.is_written
    (if_same (is_within b j) (item_at (place_of b j) ws) (item_at (place_of b j) vs) Index (λ inside.
    item_beside (place_of b j) (place_of b i) new vs r.read.below (λ same.
    apart (sym (index_of_place b i r.read.inside) ∙ ap (index_at b) (sym same) ∙ index_of_place b j inside))))

index_back : {L : Type 0} (b : Bounds) (vs : Items L) (i : ℤ) (p : Value L) → part (AtIndex i) (Array b vs) ≡ Ok p → with_part (AtIndex i) p (Array b vs) ≡ Ok (Array b vs)
index_back b vs i p h =
    let r = element_read b vs i p h in
    ap (λ g. g >>= λ old. with_new (AtIndex i) p (Array b vs)) h ∙ ap (λ ws. Ok (Array b ws)) (item_back (place_of b i) vs p r.there)

-- ---- fields

record FieldReplaced {L : Type 0} (vs : Items L) (n : ℕ) (new w : Value L) : Type 0 where
  below : n < count vs
  is_written : Fields (written n (item new none) vs) ≡ w

field_replaced : {L : Type 0} (vs : Items L) (n : ℕ) (new w : Value L) → with_part (AtField n) new (Fields vs) ≡ Ok w → FieldReplaced vs n new w
field_replaced vs n new w h =
    let two = got (item_at n vs) (λ old. with_new (AtField n) new (Fields vs)) w h in
    record { below = item_there n vs two.value two.first; is_written = ok_same (Fields (written n (item new none) vs)) w two.second }

field_written : {L : Type 0} (vs : Items L) (n : ℕ) (new w : Value L) → FieldReplaced vs n new w → part (AtField n) w ≡ Ok new
field_written vs n new w r = subst (λ u. part (AtField n) u ≡ Ok new) r.is_written (item_written n new vs r.below)

field_others : {L : Type 0} (vs : Items L) (m n : ℕ) (new w : Value L) → m ≢ n → FieldReplaced vs m new w → part (AtField n) w ≡ part (AtField n) (Fields vs)
field_others vs m n new w apart r = subst (λ u. part (AtField n) u ≡ part (AtField n) (Fields vs)) r.is_written (item_beside n m new vs r.below (λ e. apart (sym e)))

field_back : {L : Type 0} (vs : Items L) (n : ℕ) (p : Value L) → part (AtField n) (Fields vs) ≡ Ok p → with_part (AtField n) p (Fields vs) ≡ Ok (Fields vs)
field_back vs n p h = ap (λ g. g >>= λ old. with_new (AtField n) p (Fields vs)) h ∙ ap (λ ws. Ok (Fields ws)) (item_back n vs p h)

-- ---- slices

-- A slice begins at a place of its prefix. Where it isn't null, all of it lies there.
pub record Lies (b s : Bounds) : Type 0 where
  pub along : b.down ≡ s.down
  pub starts : 0 < length_of s → index_at b (place_of b s.left) ≡ s.left
  pub ends : 0 < length_of s → place_of b s.left + length_of s ≤ length_of b

same_down : (d e : Bool) → same_direction d e ≡ true → d ≡ e
same_down true true h = refl
same_down true false h = absurd cc
same_down false true h = absurd cc
same_down false false h = refl

-- the indexes of a slice, as places of its prefix
along_prefix : (b s : Bounds) (n : ℕ) → b.down ≡ s.down → index_at b (place_of b s.left) ≡ s.left → index_at s n ≡ index_at b (place_of b s.left + n)
along_prefix b s n same start =
    ap (λ d. steps_on d s.left n) (sym same) ∙ ap (λ i. steps_on b.down i n) (sym start) ∙ steps_more b.down b.left (place_of b s.left) n

not_null : (n : ℕ) (t : Bool) → (suc n == 0 || t) ≡ true → t ≡ true
not_null n t h = let e : (suc n == 0) ≡ false = grind (arith, nat_tests) in ap (λ c. c || t) (sym e) ∙ h

lies_of : (b s : Bounds) → b.down ≡ s.down → (n : ℕ) → length_of s ≡ n → (n == 0 || (is_within b s.left && is_within b s.right)) ≡ true → Lies b s
lies_of b s same zero e h = record { along = same; starts = λ some. absurd (omega arith); ends = λ some. absurd (omega arith) }
lies_of b s same (suc n) e h =
    let two = both_true (is_within b s.left) (is_within b s.right) (not_null n (is_within b s.left && is_within b s.right) h) in
    let start : index_at b (place_of b s.left) ≡ s.left = index_of_place b s.left two.0 in
    let last : index_at s n ≡ s.right = right_is_last s n e in
    let there : place_of b s.right ≡ place_of b s.left + n = ap (place_of b) (sym last ∙ along_prefix b s n same start) ∙ place_of_index b (place_of b s.left + n) in
    let below : place_of b s.right < length_of b = place_below b s.right two.1 in
    record { along = same; starts = λ some. start; ends = λ some. omega arith }

pub lies : (b s : Bounds) → is_slice b s ≡ true → Lies b s
lies b s h =
    let two = both_true (same_direction b.down s.down) (lies_within b s) h in
    lies_of b s (same_down b.down s.down two.0) (length_of s) refl two.1

abbrev taken : {L : Type 0} → Bounds → Items L → Bounds → Items L
taken b vs s = first_of (length_of s) (without (place_of b s.left) vs)

record SliceRead {L : Type 0} (b : Bounds) (vs : Items L) (s : Bounds) (p : Value L) : Type 0 where
  is : is_slice b s ≡ true
  full : count (taken b vs s) ≡ length_of s
  read : Array s (taken b vs s) ≡ p

slice_read : {L : Type 0} (b : Bounds) (vs : Items L) (s : Bounds) (p : Value L) → slice b vs s ≡ Ok p → SliceRead b vs s p
slice_read b vs s p h =
    let two = if_ok (is_slice b s) (array_of s (taken b vs s)) Index p h in
    let three = if_ok (count (taken b vs s) == length_of s) (Ok (Array s (taken b vs s))) Range p two.1 in
    record { is = two.0; full = test_same (count (taken b vs s)) (length_of s) three.0; read = ok_same (Array s (taken b vs s)) p three.1 }

front_bound : {L : Type 0} (n : ℕ) (vs : Items L) → count (first_of n vs) ≡ n → zero + n ≤ count vs
front_bound zero vs h = omega arith
front_bound (suc n) none h = absurd (omega (arith, h))
front_bound (suc n) (item v vs) h = let e : zero + n ≤ count vs = front_bound n vs (omega arith) in omega arith

-- there are as many items behind the place
behind_place : {L : Type 0} (k n : ℕ) (vs : Items L) → count (first_of n (without k vs)) ≡ n → 0 < n → k + n ≤ count vs
behind_place zero n vs h some = front_bound n vs h
behind_place (suc k) zero none h some = absurd (omega arith)
behind_place (suc k) (suc n) none h some = absurd (omega (arith, h))
behind_place (suc k) n (item v vs) h some = let e : k + n ≤ count vs = behind_place k n vs h some in omega arith

record SliceReplaced {L : Type 0} (b : Bounds) (vs : Items L) (s : Bounds) (ns : Items L) (w : Value L) : Type 0 where
  old : Value L
  read : SliceRead b vs s old
  as_many : count ns ≡ length_of s
  is_written : Array b (written (place_of b s.left) ns vs) ≡ w

slice_replaced : {L : Type 0} (b : Bounds) (vs : Items L) (s c : Bounds) (ns : Items L) (w : Value L) → with_part (AtSlice s) (Array c ns) (Array b vs) ≡ Ok w → SliceReplaced b vs s ns w
slice_replaced b vs s c ns w h =
    let two = got (slice b vs s) (λ old. with_slice b vs s ns) w h in
    let three = if_ok (count ns == length_of s) (Ok (Array b (written (place_of b s.left) ns vs))) Length w two.second in
    record { old = two.value; read = slice_read b vs s two.value two.first; as_many = test_same (count ns) (length_of s) three.0; is_written = ok_same (Array b (written (place_of b s.left) ns vs)) w three.1 }

no_items : {L : Type 0} (vs : Items L) → count vs ≡ 0 → vs ≡ none
no_items none h = refl
no_items (item v vs) h = absurd (omega arith)

-- the items of a slice that was put in
taken_written : {L : Type 0} (k n : ℕ) (ns vs : Items L) → count ns ≡ n → count (first_of n (without k vs)) ≡ n → first_of n (without k (written k ns vs)) ≡ ns
taken_written k zero ns vs e full = sym (no_items ns e)
taken_written k (suc n) ns vs e full =
    let room : k + suc n ≤ count vs = behind_place k (suc n) vs full (omega arith) in
    let back = without (k + count ns) vs in
    ap (first_of (suc n)) (written_there k ns vs (omega arith))
    ∙ subst (λ m. first_of m (joined ns back) ≡ ns) e (first_joined ns back)

slice_written : {L : Type 0} (b : Bounds) (vs : Items L) (s c : Bounds) (ns : Items L) (w : Value L) → SliceReplaced b vs s ns w → part (AtSlice s) w ≡ Ok (Array s ns)
slice_written b vs s c ns w r =
    let ws = written (place_of b s.left) ns vs in
    let same : taken b ws s ≡ ns = taken_written (place_of b s.left) (length_of s) ns vs r.as_many r.read.full in
    subst (λ u. part (AtSlice s) u ≡ Ok (Array s ns)) r.is_written
    (if_true (is_slice b s) (array_of s (taken b ws s)) (Err Index) r.read.is
    ∙ ap (array_of s) same
    ∙ if_true (count ns == length_of s) (Ok (Array s ns)) (Err Range) (same_test (count ns) (length_of s) r.as_many))

before_or_from : (m n : ℕ) → (m < n) ⊎ (n ≤ m)
before_or_from zero zero = inr (omega arith)
before_or_from zero (suc n) = inl (omega arith)
before_or_from (suc m) zero = inr (omega arith)
before_or_from (suc m) (suc n) = elim (before_or_from m n) [ inl below ↦ inl (omega arith) | inr from ↦ inr (omega arith) ]

-- an index of the prefix at a place of the slice is one of the slice
in_both : (b s : Bounds) (j : ℤ) (n : ℕ) → Lies b s → n < length_of s → is_within b j ≡ true → place_of b j ≡ place_of b s.left + n → is_within s j ≡ true
in_both b s j n l below inside e =
    let start : index_at b (place_of b s.left) ≡ s.left = l.starts (omega arith) in
    let at : index_at s n ≡ j = along_prefix b s n l.along start ∙ ap (index_at b) (sym e) ∙ index_of_place b j inside in
    subst (λ z. is_within s z ≡ true) at (index_within s n below)

outside_by : (b s : Bounds) (j : ℤ) → Lies b s → 0 < length_of s → is_within b j ≡ true → (is_within s j ≡ true → ⊥) → place_of b s.left ≤ place_of b j → (n : ℕ) → place_of b j - place_of b s.left ≡ n → place_of b s.left + length_of s ≤ place_of b j
outside_by b s j l some inside apart from n e =
    elim (before_or_from n (length_of s)) [
      | inl below ↦ absurd (apart (in_both b s j n l below inside (omega arith)))
      | inr beyond ↦ omega arith
    ]

-- a place of the prefix that isn't one of the slice
outside : (b s : Bounds) (j : ℤ) → Lies b s → 0 < length_of s → is_within b j ≡ true → (is_within s j ≡ true → ⊥) → place_of b s.left ≤ place_of b j → place_of b s.left + length_of s ≤ place_of b j
outside b s j l some inside apart from = outside_by b s j l some inside apart from (place_of b j - place_of b s.left) refl

item_outside : {L : Type 0} (b s : Bounds) (ns vs : Items L) (j : ℤ) → Lies b s → count ns ≡ length_of s → (n : ℕ) → length_of s ≡ n → count (first_of n (without (place_of b s.left) vs)) ≡ n → is_within b j ≡ true → (is_within s j ≡ true → ⊥) →
    item_at (place_of b j) (written (place_of b s.left) ns vs) ≡ item_at (place_of b j) vs
item_outside b s ns vs j l e zero f full inside apart =
    ap (λ us. item_at (place_of b j) (written (place_of b s.left) us vs)) (no_items ns (e ∙ f)) ∙ ap (item_at (place_of b j)) (written_none (place_of b s.left) vs)
item_outside b s ns vs j l e (suc n) f full inside apart =
    let room : place_of b s.left + suc n ≤ count vs = behind_place (place_of b s.left) (suc n) vs full (omega arith) in
    elim (before_or_from (place_of b j) (place_of b s.left)) [
      | inl below ↦ before_written (place_of b j) (place_of b s.left) ns vs (omega arith) below
      | inr from ↦ (let beyond : place_of b s.left + length_of s ≤ place_of b j = outside b s j l (omega arith) inside apart from in
          behind_written (place_of b j) (place_of b s.left) ns vs (omega arith) (omega arith))
    ]

slice_others : {L : Type 0} (b : Bounds) (vs : Items L) (s : Bounds) (j : ℤ) (ns : Items L) (w : Value L) → (is_within s j ≡ true → ⊥) → SliceReplaced b vs s ns w → part (AtIndex j) w ≡ part (AtIndex j) (Array b vs)
slice_others b vs s j ns w apart r =
    let ws = written (place_of b s.left) ns vs in
    subst (λ u. part (AtIndex j) u ≡ part (AtIndex j) (Array b vs)) r.is_written
    (if_same (is_within b j) (item_at (place_of b j) ws) (item_at (place_of b j) vs) Index (λ inside.
    item_outside b s ns vs j (lies b s r.read.is) r.as_many (length_of s) refl r.read.full inside apart))

slice_back : {L : Type 0} (b : Bounds) (vs : Items L) (s : Bounds) (p : Value L) → part (AtSlice s) (Array b vs) ≡ Ok p → with_part (AtSlice s) p (Array b vs) ≡ Ok (Array b vs)
slice_back b vs s p h =
    let r = slice_read b vs s p h in
    ap (λ g. g >>= λ old. with_new (AtSlice s) p (Array b vs)) h
    ∙ ap (λ q. with_new (AtSlice s) q (Array b vs)) (sym r.read)
    ∙ if_true (count (taken b vs s) == length_of s) (Ok (Array b (written (place_of b s.left) (taken b vs s) vs))) (Err Length) (same_test (count (taken b vs s)) (length_of s) r.full)
    ∙ ap (λ ws. Ok (Array b ws)) (written_back (place_of b s.left) (taken b vs s) vs (ap (λ n. first_of n (without (place_of b s.left) vs)) r.full))

-- an element of a slice
slice_element : {L : Type 0} (b : Bounds) (vs : Items L) (s : Bounds) (i : ℤ) (w : Value L) → SliceRead b vs s w → is_within s i ≡ true → part (AtIndex i) w ≡ part (AtIndex i) (Array b vs)
slice_element b vs s i w r inside =
    let l = lies b s r.is in
    let k = place_of b s.left in
    let n = place_of s i in
    let below : n < length_of s = place_below s i inside in
    let start : index_at b k ≡ s.left = l.starts (omega arith) in
    let room : k + length_of s ≤ length_of b = l.ends (omega arith) in
    let at : index_at b (k + n) ≡ i = sym (along_prefix b s n l.along start) ∙ index_of_place s i inside in
    let there : place_of b i ≡ k + n = ap (place_of b) (sym at) ∙ place_of_index b (k + n) in
    let within : is_within b i ≡ true = subst (λ z. is_within b z ≡ true) at (index_within b (k + n) (omega arith)) in
    subst (λ u. part (AtIndex i) u ≡ part (AtIndex i) (Array b vs)) r.read
    (if_true (is_within s i) (item_at n (taken b vs s)) (Err Index) inside
    ∙ item_of_first n (length_of s) (without k vs) below
    ∙ ap first_item (sym (without_more k n vs))
    ∙ ap (λ m. item_at m vs) (sym there)
    ∙ sym (if_true (is_within b i) (item_at (place_of b i) vs) (Err Index) within))

-- ---- all steps

parts_written : {L : Type 0} (step : Step) (new v w : Value L) → with_part step new v ≡ Ok w → part step w ≡ Ok (as_part step new)
parts_written (AtIndex i) new (One x) w h = no_value w h
parts_written (AtIndex i) new (Array b vs) w h = index_written b vs i new w (replaced b vs i new w h)
parts_written (AtIndex i) new (Fields vs) w h = no_value w h
parts_written (AtSlice s) new (One x) w h = no_value w h
parts_written (AtSlice s) (One y) (Array b vs) w h = let two = got (slice b vs s) (λ old. with_new (AtSlice s) (One y) (Array b vs)) w h in no_value w two.second
parts_written (AtSlice s) (Array c ns) (Array b vs) w h = slice_written b vs s c ns w (slice_replaced b vs s c ns w h)
parts_written (AtSlice s) (Fields ns) (Array b vs) w h = let two = got (slice b vs s) (λ old. with_new (AtSlice s) (Fields ns) (Array b vs)) w h in no_value w two.second
parts_written (AtSlice s) new (Fields vs) w h = no_value w h
parts_written (AtField n) new (One x) w h = no_value w h
parts_written (AtField n) new (Array b vs) w h = no_value w h
parts_written (AtField n) new (Fields vs) w h = field_written vs n new w (field_replaced vs n new w h)

others_stay : {L : Type 0} (step other : Step) (new v w : Value L) → IsApart step other → with_part step new v ≡ Ok w → part other w ≡ part other v
others_stay (AtIndex i) (AtIndex j) new (One x) w apart h = no_value w h
others_stay (AtIndex i) (AtIndex j) new (Array b vs) w apart h = index_others b vs i j new w apart (replaced b vs i new w h)
others_stay (AtIndex i) (AtIndex j) new (Fields vs) w apart h = no_value w h
others_stay (AtIndex i) (AtSlice s) new v w apart h = absurd apart
others_stay (AtIndex i) (AtField n) new v w apart h = absurd apart
others_stay (AtSlice s) (AtIndex j) new (One x) w apart h = no_value w h
others_stay (AtSlice s) (AtIndex j) (One y) (Array b vs) w apart h = let two = got (slice b vs s) (λ old. with_new (AtSlice s) (One y) (Array b vs)) w h in no_value w two.second
others_stay (AtSlice s) (AtIndex j) (Array c ns) (Array b vs) w apart h = slice_others b vs s j ns w apart (slice_replaced b vs s c ns w h)
others_stay (AtSlice s) (AtIndex j) (Fields ns) (Array b vs) w apart h = let two = got (slice b vs s) (λ old. with_new (AtSlice s) (Fields ns) (Array b vs)) w h in no_value w two.second
others_stay (AtSlice s) (AtIndex j) new (Fields vs) w apart h = no_value w h
others_stay (AtSlice s) (AtSlice t) new v w apart h = absurd apart
others_stay (AtSlice s) (AtField n) new v w apart h = absurd apart
others_stay (AtField m) (AtIndex j) new v w apart h = absurd apart
others_stay (AtField m) (AtSlice s) new v w apart h = absurd apart
others_stay (AtField m) (AtField n) new (One x) w apart h = no_value w h
others_stay (AtField m) (AtField n) new (Array b vs) w apart h = no_value w h
others_stay (AtField m) (AtField n) new (Fields vs) w apart h = field_others vs m n new w apart (field_replaced vs m new w h)

put_back : {L : Type 0} (step : Step) (v p : Value L) → part step v ≡ Ok p → with_part step p v ≡ Ok v
put_back (AtIndex i) (One x) p h = no_value p h
put_back (AtIndex i) (Array b vs) p h = index_back b vs i p h
put_back (AtIndex i) (Fields vs) p h = no_value p h
put_back (AtSlice s) (One x) p h = no_value p h
put_back (AtSlice s) (Array b vs) p h = slice_back b vs s p h
put_back (AtSlice s) (Fields vs) p h = no_value p h
put_back (AtField n) (One x) p h = no_value p h
put_back (AtField n) (Array b vs) p h = no_value p h
put_back (AtField n) (Fields vs) p h = field_back vs n p h

in_slice : {L : Type 0} (s : Bounds) (i : ℤ) (v w : Value L) → part (AtSlice s) v ≡ Ok w → is_within s i ≡ true → part (AtIndex i) w ≡ part (AtIndex i) v
in_slice s i (One x) w h inside = no_value w h
in_slice s i (Array b vs) w h inside = slice_element b vs s i w (slice_read b vs s w h) inside
in_slice s i (Fields vs) w h inside = no_value w h

slice_length : {L : Type 0} (s : Bounds) (v w : Value L) → part (AtSlice s) v ≡ Ok w → count (items_in w) ≡ length_of s
slice_length s (One x) w h = no_value w h
slice_length s (Array b vs) w h =
    let r = slice_read b vs s w h in
    subst (λ u. count (items_in u) ≡ length_of s) r.read r.full
slice_length s (Fields vs) w h = no_value w h

pub parts_agree : {L : Type 0} → PartsAgree L
parts_agree = record { written = parts_written; others = others_stay; put_back = put_back; length = slice_length; in_slice = in_slice }
