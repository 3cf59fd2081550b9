-- The bounds of so many elements, as code finds them.
use Rattle.std.proofs.Common.{◌≡◌, ◌<◌, ◌≤◌, ℕ, zero, suc, ◌+◌, ℤ, Bool, true, false, List, ◌∷◌, ◌++◌, Some, refl, sym, ap, ◌∙◌, arith}
use Rattle.std.specs.Prelude.{◌==◌, Ok, Err, if◌then◌else◌}
use Rattle.vd_values.specs.declared.scalar.Scalar.{Scalar}
use Rattle.vd_values.specs.declared.scalar.StopKind.{StopKind}
use Rattle.vd_values.specs.declared.scalar.StopKind.TheVariants.{Range, Index}
use Rattle.vd_composites.specs.declared.ends.ValueEnd.{ValueEnd}
use Rattle.vd_composites.specs.declared.ends.ValueEnd.TheVariants.{Stop, Memory}
use Rattle.vd_composites.specs.Answers.{Ends}
use Rattle.vd_composites.specs.declared.nodes.Node.{Node}
use Rattle.vd_composites.specs.declared.nodes.Node.TheVariants.{Array as ArrayNode, Right, Fields as FieldsNode}
use Rattle.vd_composites.specs.Stops.{OrStop}
use Rattle.vd_composites.specs.Composites.{Value, Array, Fields, count, joined}
use Rattle.vd_composites.specs.Parts.{array_of}
use Rattle.vd_composites.specs.Subtypes.{indexed}
use Rattle.vd_composites.specs.Concatenations.{array_on}
use Rattle.vd_composites.proofs.ItemLemmas.{first_all}
use Rattle.vd_composites.proofs.NodeLemmas.{after_both, after_more, counted, read_both}
use Rattle.vd_composites.specs.declared.ranges.Bounds.{Bounds}
use Rattle.vd_composites.specs.declared.scalars.ScalarSubtype.{ScalarSubtype}
use Rattle.vd_composites.specs.declared.scalars.ScalarType.TheVariants.{Integers}
use Rattle.vd_composites.specs.Ranges.{length_of, lies_within, from_left}
use Rattle.vd_composites.specs.Nodes.{bounds_from, after, read, value_in}
use Rattle.vd_composites.proofs.StopLemmas.{ok_same, not_true, if_true, if_false, same_test, no_test}
use Rattle.vd_composites.proofs.ConcatenationLaws.{some_lie, all_lie}

abbrev indexed_by : Bounds → ScalarSubtype
indexed_by b = record { of_type = Integers; range = b }

pub too_many : (b : Bounds) (n : ℕ) → 0 < n → length_of b < n → lies_within b (from_left b.left b.down n) ≡ false
too_many b zero some h = absurd (omega arith)
too_many b (suc n) some h = not_true (lies_within b (from_left b.left b.down (suc n))) (λ e. let below : n < length_of b = some_lie (indexed_by b) n e in absurd (omega arith))

pub enough : (b : Bounds) (n : ℕ) → (0 < n → n ≤ length_of b) → lies_within b (from_left b.left b.down n) ≡ true
enough b n h = all_lie (indexed_by b) n h

pub ok_bounds : (down : Bool) (l m r s : ℤ) → l ≡ m → r ≡ s → (let g : OrStop Bounds = Ok (bounds_from l down r) in g ≡ Ok (bounds_from m down s))
ok_bounds down l m r s e f = λ i. Ok (bounds_from (e i) down (f i))

-- ---- items behind others

pub added_whole : (m n : ℕ) (xs ys zs : List Node) → zs ≡ xs ++ ys → after m xs ≡ Some 0 → after n ys ≡ Some 0 → after (m + n) zs ≡ Some 0
added_whole m n xs ys zs e h k =
    let o : 0 + n ≡ n = omega arith in
    ap (after (m + n)) e ∙ after_both (m + n) (0 + n) xs ys (after_more m 0 n xs h) ∙ ap (λ i. after i ys) o ∙ k

pub added_read : (m : ℕ) (xs ys zs : List Node) → zs ≡ xs ++ ys → after m xs ≡ Some 0 → read zs ≡ joined (read xs) (read ys)
added_read m xs ys zs e h = ap read e ∙ read_both m xs ys h

-- ---- arrays and records of items

pub record_made : (n fields : ℕ) (ns made : List Node) → after n ns ≡ Some 0 → fields ≡ n → made ≡ FieldsNode fields ∷ ns → (after 1 made ≡ Some 0) × (let g : OrStop (Value Scalar) = Ok (Fields (read ns)) in g ≡ Ok (value_in (read made)))
record_made n fields ns made h e m =
    let o : fields + 0 ≡ n = omega arith in
    let many : count (read ns) ≡ n = counted n ns h in (
      ap (after 1) m ∙ ap (λ i. after i ns) o ∙ h,
      sym (ap (λ xs. Ok (value_in (read xs))) m ∙ ap (λ us. Ok (Fields us)) (first_all fields (read ns) (omega arith))),
    )

pub array_is_made : (b : Bounds) (n : ℕ) (ns made : List Node) → after n ns ≡ Some 0 → length_of b ≡ n → made ≡ ArrayNode b.left b.down ∷ Right b.right ∷ ns → (after 1 made ≡ Some 0) × (array_of b (read ns) ≡ Ok (value_in (read made)))
array_is_made b n ns made h e m =
    let o : length_of b + 0 ≡ n = omega arith in
    let many : count (read ns) ≡ n = counted n ns h in (
      ap (after 1) m ∙ ap (λ i. after i ns) o ∙ h,
      if_true (count (read ns) == length_of b) (Ok (Array b (read ns))) (Err Range) (same_test (count (read ns)) (length_of b) (many ∙ sym e))
          ∙ sym (ap (λ xs. Ok (value_in (read xs))) m ∙ ap (λ us. Ok (Array b us)) (first_all (length_of b) (read ns) (omega arith))),
    )

pub array_is_not : (b : Bounds) (n : ℕ) (ns : List Node) → after n ns ≡ Some 0 → (length_of b ≡ n → ⊥) → array_of b (read ns) ≡ Err Range
array_is_not b n ns h differ =
    if_false (count (read ns) == length_of b) (Ok (Array b (read ns))) (Err Range) (no_test (count (read ns)) (length_of b) (λ e. differ (sym e ∙ counted n ns h)))

stop_same : (k : StopKind) → (let g : OrStop Bounds = Err Index in g ≡ Err k) → (let g : OrStop (Value Scalar) = Err Index in g ≡ Err k)
stop_same k e = let same : Index ≡ k = cc in ap (λ j. Err j) same

stopped : (t : Bool) (b : Bounds) (g : OrStop (Value Scalar)) (k : StopKind) → (let f : OrStop Bounds = (if t then Ok b else Err Index) in f ≡ Err k) → (if t then g else Err Index) ≡ Err k
stopped true b g k e = absurd cc
stopped false b g k e = stop_same k e

-- what stops the bounds stops the array
pub on_end : (index : ScalarSubtype) (n : ℕ) (ns : List Node) (end : ValueEnd) → after n ns ≡ Some 0 →
    Ends end (if lies_within index.range (from_left index.range.left index.range.down n) then Ok (from_left index.range.left index.range.down n) else Err Index) → Ends end (array_on index (read ns))
on_end index n ns Memory h e = tt
on_end index n ns (Stop k) h e =
    let own = from_left index.range.left index.range.down n in
    ap (λ m. indexed index (from_left index.range.left index.range.down m) (read ns)) (counted n ns h)
    ∙ stopped (lies_within index.range own) own (array_of own (read ns)) k e

found_if : (t : Bool) (b c : Bounds) → (let g : OrStop Bounds = (if t then Ok b else Err Index) in g ≡ Ok c) → (t ≡ true) × (b ≡ c)
found_if true b c h = (refl, ok_same b c h)
found_if false b c h = absurd cc

pub on_found : (index : ScalarSubtype) (n : ℕ) (ns : List Node) (b : Bounds) → after n ns ≡ Some 0 →
    (let g : OrStop Bounds = (if lies_within index.range (from_left index.range.left index.range.down n) then Ok (from_left index.range.left index.range.down n) else Err Index) in g ≡ Ok b) →
    array_of b (read ns) ≡ array_on index (read ns)
on_found index n ns b h e =
    let own = from_left index.range.left index.range.down n in
    let two = found_if (lies_within index.range own) own b e in
    sym (ap (λ m. indexed index (from_left index.range.left index.range.down m) (read ns)) (counted n ns h)
    ∙ if_true (lies_within index.range own) (array_of own (read ns)) (Err Index) two.0
    ∙ ap (λ c. array_of c (read ns)) two.1)
