-- Values with a part replaced, as code makes them.
use Rattle.std.proofs.Common.{◌≡◌, ◌<◌, ◌≤◌, ℕ, zero, suc, ◌+◌, ◌-◌, ℤ, true, false, List, [], ◌∷◌, ◌++◌, length, take, drop, Some, None, refl, sym, ap, ◌∙◌, arith}
use Rattle.std.specs.Prelude.{Ok, Err, ◌==◌, if◌then◌else◌}
use Rattle.vd_values.specs.declared.scalar.Scalar.{Scalar}
use Rattle.vd_values.specs.declared.scalar.StopKind.{StopKind}
use Rattle.vd_values.specs.declared.scalar.StopKind.TheVariants.{Range, Index, Length}
use Rattle.vd_composites.specs.declared.ranges.Bounds.{Bounds}
use Rattle.vd_composites.specs.declared.nodes.Node.{Node}
use Rattle.vd_composites.specs.declared.nodes.Node.TheVariants.{Integer as IntegerNode, Literal as LiteralNode, Time as TimeNode, Array as ArrayNode, Right, Fields as FieldsNode}
use Rattle.vd_composites.specs.Stops.{◌>>=◌}
use Rattle.vd_composites.specs.Ranges.{length_of, is_within, place_of}
use Rattle.vd_composites.specs.Composites.{Value, Array, Fields, Items, none, item, count, without, first_of, written}
use Rattle.vd_composites.specs.Parts.{Step, AtIndex, AtSlice, AtField, part, array_of, is_slice, with_new, with_part, with_slice}
use Rattle.vd_composites.specs.Nodes.{read, after, value_in, bounds_in, slice_start}
use Rattle.vd_composites.specs.Answers.{Replaces}
use Rattle.vd_composites.proofs.RangeLemmas.{place_below}
use Rattle.vd_composites.proofs.ItemLemmas.{first_all, count_first, count_without, written_none}
use Rattle.vd_composites.proofs.NodeLemmas.{counted}
use Rattle.std.proofs.lemmas.Bool.Decides.{nat_tests}
use Rattle.vd_composites.proofs.NodeSteps.{tail_of}
use Rattle.vd_composites.proofs.PartLaws.{lies}
use Rattle.vd_composites.proofs.SliceLemmas.{start_fits}
use Rattle.vd_composites.proofs.StopLemmas.{if_true, if_false, same_test, no_test}
use Rattle.vd_composites.proofs.ValueLemmas.{IsArray, IsRecord, element_read_is, field_read_is}

-- where a part stops, so does the value with it replaced
pub stops_too : (step : Step) (new v : Value Scalar) (e : StopKind) → part step v ≡ Err e → with_part step new v ≡ Err e
stops_too step new v e h = ap (λ g. g >>= λ old. with_new step new v) h

reads_too : (step : Step) (new v p : Value Scalar) → part step v ≡ Ok p → with_part step new v ≡ with_new step new v
reads_too step new v p h = ap (λ g. g >>= λ old. with_new step new v) h

pub one_item : (vs : Items Scalar) → count vs ≡ 1 → vs ≡ item (value_in vs) none
one_item none h = absurd (omega arith)
one_item (item v none) h = refl
one_item (item v (item w vs)) h = absurd (omega arith)

pub record ArrayMade (b : Bounds) (vs : Items Scalar) (place : ℕ) (new made : List Node) : Type 0 where
  pub whole : after 1 made ≡ Some 0
  pub is : value_in (read made) ≡ Array b (written place (read new) vs)

pub array_made : (ns : List Node) (b : Bounds) (place items : ℕ) (new made : List Node) → IsArray ns b → place + items ≤ length_of b → Replaces (take 2 ns) (take (length ns - 2) (drop 2 ns)) place items new made → ArrayMade b (read (drop 2 ns)) place new made
array_made ns b place items new made a fit r =
    let tail = take (length ns - 2) (drop 2 ns) in
    let k : ℕ = length_of b - (place + items) in
    let e : place + (items + k) ≡ length_of b = omega arith in
    let o : length_of b + 0 ≡ length_of b = omega arith in
    let before : after (place + (items + k)) tail ≡ Some 0 = ap (after (place + (items + k))) (tail_of 2 ns) ∙ ap (λ n. after n (drop 2 ns)) e ∙ a.whole in
    let whole : after (length_of b) r.body ≡ Some 0 = ap (λ n. after n r.body) (sym e) ∙ r.whole k before in
    let many : count (read r.body) ≡ length_of b = counted (length_of b) r.body whole in
    let made_is : made ≡ ArrayNode b.left b.down ∷ Right b.right ∷ r.body = r.behind ∙ ap (λ xs. xs ++ r.body) a.front in
    record {
      whole = ap (after 1) made_is ∙ ap (λ n. after n r.body) o ∙ whole;
      is = ap (λ xs. value_in (read xs)) made_is ∙ ap (Array b) (first_all (length_of b) (read r.body) (omega arith)) ∙ ap (Array b) (r.are ∙ ap (λ xs. written place (read new) (read xs)) (tail_of 2 ns));
    }

pub element_replaced : (ns : List Node) (b : Bounds) (i : ℤ) (place : ℕ) (new made : List Node) → IsArray ns b → is_within b i ≡ true → place ≡ place_of b i → after 1 new ≡ Some 0 →
    Replaces (take 2 ns) (take (length ns - 2) (drop 2 ns)) place 1 new made → (after 1 made ≡ Some 0) × (with_part (AtIndex i) (value_in (read new)) (value_in (read ns)) ≡ Ok (value_in (read made)))
element_replaced ns b i place new made a inside there one r =
    let below : place_of b i < length_of b = place_below b i inside in
    let m = array_made ns b place 1 new made a (omega arith) r in
    let new_is : read new ≡ item (value_in (read new)) none = one_item (read new) (counted 1 new one) in
    let vs = read (drop 2 ns) in (
      m.whole,
      reads_too (AtIndex i) (value_in (read new)) (value_in (read ns)) _ (element_read_is ns b i a inside)
          ∙ ap (with_new (AtIndex i) (value_in (read new))) a.is
          ∙ ap (λ p. Ok (Array b (written p (item (value_in (read new)) none) vs))) (sym there)
          ∙ ap (λ us. Ok (Array b (written place us vs))) (sym new_is)
          ∙ ap (λ v. Ok v) (sym m.is),
    )

pub field_replaced : (ns : List Node) (n place : ℕ) (new made : List Node) → IsRecord ns n → place < n → after 1 new ≡ Some 0 →
    Replaces (take 1 ns) (take (length ns - 1) (drop 1 ns)) place 1 new made → (after 1 made ≡ Some 0) × (with_part (AtField place) (value_in (read new)) (value_in (read ns)) ≡ Ok (value_in (read made)))
field_replaced ns n place new made a below one r =
    let tail = take (length ns - 1) (drop 1 ns) in
    let k : ℕ = n - (place + 1) in
    let e : place + (1 + k) ≡ n = omega arith in
    let o : n + 0 ≡ n = omega arith in
    let before : after (place + (1 + k)) tail ≡ Some 0 = ap (after (place + (1 + k))) (tail_of 1 ns) ∙ ap (λ m. after m (drop 1 ns)) e ∙ a.whole in
    let whole : after n r.body ≡ Some 0 = ap (λ m. after m r.body) (sym e) ∙ r.whole k before in
    let many : count (read r.body) ≡ n = counted n r.body whole in
    let made_is : made ≡ FieldsNode n ∷ r.body = r.behind ∙ ap (λ xs. xs ++ r.body) a.front in
    let new_is : read new ≡ item (value_in (read new)) none = one_item (read new) (counted 1 new one) in
    let vs = read (drop 1 ns) in (
      ap (after 1) made_is ∙ ap (λ m. after m r.body) o ∙ whole,
      reads_too (AtField place) (value_in (read new)) (value_in (read ns)) _ (field_read_is ns n place a below)
          ∙ ap (with_new (AtField place) (value_in (read new))) a.is
          ∙ ap (λ us. Ok (Fields (written place us vs))) (sym new_is)
          ∙ ap (λ xs. Ok (Fields (written place (read new) (read xs)))) (sym (tail_of 1 ns))
          ∙ ap (λ us. Ok (Fields us)) (sym r.are)
          ∙ sym (ap (λ xs. Ok (value_in (read xs))) made_is ∙ ap (λ us. Ok (Fields us)) (first_all n (read r.body) (omega arith))),
    )

-- ---- slices

full_by : (n p : ℕ) (vs : Items Scalar) → (0 < n → p + n ≤ count vs) → count (first_of n (without p vs)) ≡ n
full_by zero p vs h = refl
full_by (suc n) p vs h =
    let room : p + suc n ≤ count vs = h (omega arith) in
    let e : p + count (without p vs) ≡ count vs = count_without p vs (omega arith) in
    count_first (suc n) (without p vs) (omega arith)

slice_read_is : (ns : List Node) (b s : Bounds) → IsArray ns b → is_slice b s ≡ true → part (AtSlice s) (value_in (read ns)) ≡ Ok (Array s (first_of (length_of s) (without (place_of b s.left) (read (drop 2 ns)))))
slice_read_is ns b s a is =
    let vs = read (drop 2 ns) in
    let taken = first_of (length_of s) (without (place_of b s.left) vs) in
    let many : count vs ≡ length_of b = counted (length_of b) (drop 2 ns) a.whole in
    let full : count taken ≡ length_of s = full_by (length_of s) (place_of b s.left) vs (λ some. let l : place_of b s.left + length_of s ≤ length_of b = (lies b s is).ends some in omega arith) in
    ap (part (AtSlice s)) a.is
    ∙ if_true (is_slice b s) (array_of s taken) (Err Index) is
    ∙ if_true (count taken == length_of s) (Ok (Array s taken)) (Err Range) (same_test (count taken) (length_of s) full)

-- a slice is replaced by the elements of an array
slice_new : (ns new : List Node) (b s c : Bounds) → IsArray ns b → IsArray new c → is_slice b s ≡ true →
    with_part (AtSlice s) (value_in (read new)) (value_in (read ns)) ≡ with_slice b (read (drop 2 ns)) s (read (drop 2 new))
slice_new ns new b s c a n is =
    reads_too (AtSlice s) (value_in (read new)) (value_in (read ns)) _ (slice_read_is ns b s a is)
    ∙ ap (with_new (AtSlice s) (value_in (read new))) a.is
    ∙ ap (λ v. with_new (AtSlice s) v (Array b (read (drop 2 ns)))) n.is

pub slice_of_other_length : (ns new : List Node) (b s c : Bounds) → IsArray ns b → IsArray new c → is_slice b s ≡ true → (length_of c ≡ length_of s → ⊥) → with_part (AtSlice s) (value_in (read new)) (value_in (read ns)) ≡ Err Length
slice_of_other_length ns new b s c a n is differ =
    let ws = read (drop 2 new) in
    let many : count ws ≡ length_of c = counted (length_of c) (drop 2 new) n.whole in
    slice_new ns new b s c a n is
    ∙ if_false (count ws == length_of s) (Ok (Array b (written (place_of b s.left) ws (read (drop 2 ns))))) (Err Length) (no_test (count ws) (length_of s) (λ e. differ (sym many ∙ e)))

no_array_new : (new : List Node) (b s : Bounds) (vs : Items Scalar) → bounds_in new ≡ None → with_new (AtSlice s) (value_in (read new)) (Array b vs) ≡ Err Range
no_array_new (ArrayNode left down ∷ Right right ∷ ns) b s vs e = absurd cc
no_array_new [] b s vs e = refl
no_array_new (IntegerNode x ∷ ns) b s vs e = refl
no_array_new (LiteralNode x ∷ ns) b s vs e = refl
no_array_new (TimeNode x ∷ ns) b s vs e = refl
no_array_new (FieldsNode n ∷ ns) b s vs e = refl
no_array_new (x ∷ ns) b s vs e = refl

pub slice_of_no_array : (ns new : List Node) (b s : Bounds) → IsArray ns b → is_slice b s ≡ true → bounds_in new ≡ None → with_part (AtSlice s) (value_in (read new)) (value_in (read ns)) ≡ Err Range
slice_of_no_array ns new b s a is e =
    reads_too (AtSlice s) (value_in (read new)) (value_in (read ns)) _ (slice_read_is ns b s a is)
    ∙ ap (with_new (AtSlice s) (value_in (read new))) a.is
    ∙ no_array_new new b s (read (drop 2 ns)) e

start_written : (n p : ℕ) (us vs : Items Scalar) → count us ≡ n → written p us vs ≡ written (if n == 0 then 0 else p) us vs
start_written zero p none vs h = written_none p vs ∙ sym (written_none 0 vs)
start_written zero p (item u us) vs h = absurd (omega arith)
start_written (suc n) p us vs h = let e : (suc n == 0) ≡ false = grind (arith, nat_tests) in ap (λ t. written (if t then 0 else p) us vs) (sym e)

-- the elements of an array as code takes them
pub elements_as_many : (new : List Node) (c : Bounds) (items : ℕ) → IsArray new c → items ≡ length_of c → after items (take (length new - 2) (drop 2 new)) ≡ Some 0
elements_as_many new c items n h = ap (after items) (tail_of 2 new) ∙ ap (λ m. after m (drop 2 new)) h ∙ n.whole

pub slice_replaced : (ns : List Node) (b s c : Bounds) (place items : ℕ) (new made : List Node) → IsArray ns b → IsArray new c → is_slice b s ≡ true → length_of c ≡ length_of s → place ≡ slice_start b s → items ≡ length_of s →
    Replaces (take 2 ns) (take (length ns - 2) (drop 2 ns)) place items (take (length new - 2) (drop 2 new)) made → (after 1 made ≡ Some 0) × (with_part (AtSlice s) (value_in (read new)) (value_in (read ns)) ≡ Ok (value_in (read made)))
slice_replaced ns b s c place items new made a n is same there many r =
    let fit : slice_start b s + length_of s ≤ length_of b = start_fits b s is in
    let m = array_made ns b place items (take (length new - 2) (drop 2 new)) made a (omega arith) r in
    let vs = read (drop 2 ns) in
    let ws = read (drop 2 new) in
    let as_many : count ws ≡ length_of s = counted (length_of c) (drop 2 new) n.whole ∙ same in (
      m.whole,
      slice_new ns new b s c a n is
          ∙ if_true (count ws == length_of s) (Ok (Array b (written (place_of b s.left) ws vs))) (Err Length) (same_test (count ws) (length_of s) as_many)
          ∙ ap (λ us. Ok (Array b us)) (start_written (length_of s) (place_of b s.left) ws vs as_many)
          ∙ ap (λ p. Ok (Array b (written p ws vs))) (sym there)
          ∙ ap (λ xs. Ok (Array b (written place (read xs) vs))) (sym (tail_of 2 new))
          ∙ ap (λ v. Ok v) (sym m.is),
    )
