-- What the nodes of a value say of it.
use Rattle.std.proofs.Common.{◌≡◌, ◌<◌, ◌≤◌, ℕ, zero, suc, ◌+◌, ◌-◌, ℤ, true, false, List, [], ◌∷◌, length, take, drop, Option, Some, None, refl, sym, ap, ◌∙◌, subst, arith}
use Rattle.std.specs.Prelude.{Result, Ok, Err, Vec, IfOk, ◌==◌, slice_set}
use Rattle.std.specs.Global.{Global}
use Rattle.vd_composites.specs.declared.ends.ValueEnd.{ValueEnd}
use Rattle.vd_values.specs.declared.scalar.Scalar.{Scalar}
use Rattle.vd_values.specs.declared.scalar.StopKind.TheVariants.{Range, Index, Length}
use Rattle.vd_composites.specs.declared.ranges.Bounds.{Bounds}
use Rattle.vd_composites.specs.declared.nodes.Node.{Node}
use Rattle.vd_composites.specs.declared.nodes.Node.TheVariants.{Integer, Literal, Time, Array as ArrayNode, Right, Fields as FieldsNode}
use Rattle.vd_composites.specs.Stops.{OrStop}
use Rattle.vd_composites.specs.Ranges.{length_of, is_within, place_of, lies_within}
use Rattle.vd_composites.specs.Composites.{Value, One, Array, Fields, Items, none, item, count, without, first_of}
use Rattle.vd_composites.specs.Parts.{first_item, item_at, array_of, AtIndex, AtSlice, AtField, part}
use Rattle.vd_composites.specs.Nodes.{bounds_from, read, after, value_in, bounds_in, fields_in, scalar_in}
use Rattle.vd_composites.specs.Composites.{scalar_of, bounds_of, items_in}
use Rattle.vd_composites.specs.Scalars.{belongs}
use Rattle.vd_composites.specs.Subtypes.{Subtype, Scalars, Arrays, Records, Subtypes, number_of, fit}
use Rattle.vd_composites.specs.declared.scalars.ScalarSubtype.{ScalarSubtype}
use Rattle.vd_values.specs.declared.scalar.Scalar.TheVariants.{Integer as OfInteger, Literal as OfLiteral, Time as OfTime}
use Rattle.vd_composites.specs.Answers.{HasItems, MadeNodes}
use Rattle.vd_composites.proofs.RangeLemmas.{place_below}
use Rattle.vd_composites.proofs.ItemLemmas.{first_all, count_without}
use Rattle.vd_composites.proofs.NodeLemmas.{some_same, bounds_same, scalar_same, counted, wanted_fit}
use Rattle.vd_composites.proofs.NodeSteps.{tail_of}
use Rattle.vd_composites.proofs.StopLemmas.{if_true, if_false, same_test, no_test}

pub record IsArray (ns : List Node) (b : Bounds) : Type 0 where
  pub whole : after (length_of b) (drop 2 ns) ≡ Some 0
  pub is : value_in (read ns) ≡ Array b (read (drop 2 ns))
  pub long : length_of b + 2 ≤ length ns
  pub front : take 2 ns ≡ ArrayNode b.left b.down ∷ Right b.right ∷ []

pub is_array : (ns : List Node) (b : Bounds) → after 1 ns ≡ Some 0 → bounds_in ns ≡ Some b → IsArray ns b
is_array (ArrayNode left down ∷ Right right ∷ ns) b h e =
    let c = bounds_from left down right in
    let same : c ≡ b = bounds_same c b e in
    let n : length_of c + 0 ≡ length_of c = omega arith in
    let whole : after (length_of c) ns ≡ Some 0 = ap (λ m. after m ns) (sym n) ∙ h in
    let many : count (read ns) ≡ length_of c = counted (length_of c) ns whole in
    let fit : length_of c ≤ length ns + 0 = wanted_fit (length_of c) 0 ns whole in
    subst (λ d. IsArray (ArrayNode left down ∷ Right right ∷ ns) d) same
    (record { whole = whole; is = ap (Array c) (first_all (length_of c) (read ns) (omega arith)); long = omega arith; front = refl })
is_array [] b h e = absurd cc
is_array (x ∷ ns) b h e = absurd cc

pub record IsRecord (ns : List Node) (n : ℕ) : Type 0 where
  pub whole : after n (drop 1 ns) ≡ Some 0
  pub is : value_in (read ns) ≡ Fields (read (drop 1 ns))
  pub long : n + 1 ≤ length ns
  pub front : take 1 ns ≡ FieldsNode n ∷ []

pub is_record : (ns : List Node) (n : ℕ) → after 1 ns ≡ Some 0 → fields_in ns ≡ Some n → IsRecord ns n
is_record (FieldsNode k ∷ ns) n h e =
    let same : k ≡ n = some_same k n e in
    let m : k + 0 ≡ k = omega arith in
    let whole : after k ns ≡ Some 0 = ap (λ i. after i ns) (sym m) ∙ h in
    let many : count (read ns) ≡ k = counted k ns whole in
    let fit : k ≤ length ns + 0 = wanted_fit k 0 ns whole in
    subst (λ i. IsRecord (FieldsNode k ∷ ns) i) same
    (record { whole = whole; is = ap Fields (first_all k (read ns) (omega arith)); long = omega arith; front = refl })
is_record [] n h e = absurd cc
is_record (x ∷ ns) n h e = absurd cc

-- a value that is no array has no element and no slice
pub record IsNoArray (ns : List Node) : Type 0 where
  pub index : (i : ℤ) → part (AtIndex i) (value_in (read ns)) ≡ Err Range
  pub range : (s : Bounds) → part (AtSlice s) (value_in (read ns)) ≡ Err Range

pub is_no_array : (ns : List Node) → after 1 ns ≡ Some 0 → bounds_in ns ≡ None → IsNoArray ns
is_no_array (ArrayNode left down ∷ Right right ∷ ns) h e = absurd cc
is_no_array [] h e = record { index = λ i. refl; range = λ s. refl }
is_no_array (Integer x ∷ ns) h e = record { index = λ i. refl; range = λ s. refl }
is_no_array (Literal x ∷ ns) h e = record { index = λ i. refl; range = λ s. refl }
is_no_array (Time x ∷ ns) h e = record { index = λ i. refl; range = λ s. refl }
is_no_array (FieldsNode n ∷ ns) h e = record { index = λ i. refl; range = λ s. refl }
is_no_array (x ∷ ns) h e = record { index = λ i. refl; range = λ s. refl }

pub is_no_record : (ns : List Node) (n : ℕ) → after 1 ns ≡ Some 0 → fields_in ns ≡ None → part (AtField n) (value_in (read ns)) ≡ Err Range
is_no_record (FieldsNode k ∷ ns) n h e = absurd cc
is_no_record [] n h e = refl
is_no_record (Integer x ∷ ns) n h e = refl
is_no_record (Literal x ∷ ns) n h e = refl
is_no_record (Time x ∷ ns) n h e = refl
is_no_record (ArrayNode left down ∷ Right right ∷ ns) n h e = refl
is_no_record (x ∷ ns) n h e = refl

-- the item at a place that has one
first_there : (vs : Items Scalar) → 0 < count vs → first_item vs ≡ Ok (value_in (first_of 1 vs))
first_there none h = absurd (omega arith)
first_there (item v vs) h = refl

pub item_there_is : (k : ℕ) (vs : Items Scalar) → k < count vs → item_at k vs ≡ Ok (value_in (first_of 1 (without k vs)))
item_there_is k vs h = let e : k + count (without k vs) ≡ count vs = count_without k vs (omega arith) in first_there (without k vs) (omega arith)

-- ---- elements

-- the elements of an array as code takes them, behind its two nodes
pub elements_wanted : (ns : List Node) (b : Bounds) (place items : ℕ) → IsArray ns b → place + items ≤ length_of b → (k : ℕ) × (after (place + (items + k)) (take (length ns - 2) (drop 2 ns)) ≡ Some 0)
elements_wanted ns b place items a h =
    let k : ℕ = length_of b - (place + items) in
    let e : place + (items + k) ≡ length_of b = omega arith in
    (k, ap (after (place + (items + k))) (tail_of 2 ns) ∙ ap (λ n. after n (drop 2 ns)) e ∙ a.whole)

pub all_elements : (ns : List Node) (b : Bounds) (total : ℕ) → IsArray ns b → total ≡ length_of b → after total (take (length ns - 2) (drop 2 ns)) ≡ Some 0
all_elements ns b total a same = ap (after total) (tail_of 2 ns) ∙ ap (λ n. after n (drop 2 ns)) same ∙ a.whole

pub all_fields : (ns : List Node) (n : ℕ) → IsRecord ns n → after n (take (length ns - 1) (drop 1 ns)) ≡ Some 0
all_fields ns n a = ap (after n) (tail_of 1 ns) ∙ a.whole

pub element_outside : (ns : List Node) (b : Bounds) (i : ℤ) → IsArray ns b → is_within b i ≡ false → part (AtIndex i) (value_in (read ns)) ≡ Err Index
element_outside ns b i a outside = ap (part (AtIndex i)) a.is ∙ if_false (is_within b i) (item_at (place_of b i) (read (drop 2 ns))) (Err Index) outside

-- ---- fields

pub field_wanted : (ns : List Node) (n place : ℕ) → IsRecord ns n → place < n → (k : ℕ) × (after (place + (1 + k)) (take (length ns - 1) (drop 1 ns)) ≡ Some 0)
field_wanted ns n place a h =
    let k : ℕ = n - (place + 1) in
    let e : place + (1 + k) ≡ n = omega arith in
    (k, ap (after (place + (1 + k))) (tail_of 1 ns) ∙ ap (λ m. after m (drop 1 ns)) e ∙ a.whole)

none_behind : (n : ℕ) (vs : Items Scalar) → count vs ≤ n → item_at n vs ≡ Err Range
none_behind zero none h = refl
none_behind zero (item v vs) h = absurd (omega arith)
none_behind (suc n) none h = refl
none_behind (suc n) (item v vs) h = none_behind n vs (omega arith)

pub field_outside : (ns : List Node) (n place : ℕ) → IsRecord ns n → n ≤ place → part (AtField place) (value_in (read ns)) ≡ Err Range
field_outside ns n place a h =
    let many : count (read (drop 1 ns)) ≡ n = counted n (drop 1 ns) a.whole in
    ap (part (AtField place)) a.is ∙ none_behind place (read (drop 1 ns)) (omega arith)

-- ---- items behind no other nodes

pub bare_whole : (ns : List Node) (place items : ℕ) (made : List Node) → HasItems [] ns place items made → after items made ≡ Some 0
bare_whole ns place items made h = subst (λ xs. after items xs ≡ Some 0) (sym h.behind) h.whole

pub bare_read : (ns : List Node) (place items : ℕ) (made : List Node) → HasItems [] ns place items made → read made ≡ first_of items (without place (read ns))
bare_read ns place items made h = ap read h.behind ∙ h.are

pub bare_at : (ns : List Node) (place there items : ℕ) (made : List Node) → place ≡ there → HasItems [] ns place items made → read made ≡ first_of items (without there (read ns))
bare_at ns place there items made e h = bare_read ns place items made h ∙ ap (λ n. first_of items (without n (read ns))) e

-- ---- scalars

pub is_scalar : (ns : List Node) (x : Scalar) → after 1 ns ≡ Some 0 → scalar_in ns ≡ Some x → value_in (read ns) ≡ One x
is_scalar (Integer y ∷ ns) x h e = ap One (scalar_same (OfInteger y) x e)
is_scalar (Literal n ∷ ns) x h e = ap One (scalar_same (OfLiteral n) x e)
is_scalar (Time t ∷ ns) x h e = ap One (scalar_same (OfTime t) x e)
is_scalar [] x h e = absurd cc
is_scalar (n ∷ ns) x h e = absurd cc

-- a value that is no scalar belongs to no scalar subtype
pub is_no_scalar : (ns : List Node) (s : ScalarSubtype) → after 1 ns ≡ Some 0 → scalar_in ns ≡ None → fit (Scalars s) (value_in (read ns)) ≡ Err Range
is_no_scalar [] s h e = absurd (let f : 1 ≡ 0 = some_same 1 0 h in omega arith)
is_no_scalar (Integer y ∷ ns) s h e = absurd cc
is_no_scalar (Literal n ∷ ns) s h e = absurd cc
is_no_scalar (Time t ∷ ns) s h e = absurd cc
is_no_scalar (ArrayNode left down ∷ Right right ∷ ns) s h e = refl
is_no_scalar (FieldsNode n ∷ ns) s h e = refl
is_no_scalar (n ∷ ns) s h e = absurd cc

pub scalar_fits : (ns : List Node) (s : ScalarSubtype) (x : Scalar) → after 1 ns ≡ Some 0 → scalar_in ns ≡ Some x → belongs s x ≡ true → fit (Scalars s) (value_in (read ns)) ≡ Ok (value_in (read ns))
scalar_fits ns s x h e b =
    let is = is_scalar ns x h e in
    ap (fit (Scalars s)) is ∙ if_true (belongs s x) (Ok (One x)) (Err Range) b ∙ ap (λ v. Ok v) (sym is)

pub scalar_outside : (ns : List Node) (s : ScalarSubtype) (x : Scalar) → after 1 ns ≡ Some 0 → scalar_in ns ≡ Some x → belongs s x ≡ false → fit (Scalars s) (value_in (read ns)) ≡ Err Range
scalar_outside ns s x h e b = ap (fit (Scalars s)) (is_scalar ns x h e) ∙ if_false (belongs s x) (Ok (One x)) (Err Range) b

-- ---- arrays made one of a subtype

pub no_array_fits : (ns : List Node) (index : ScalarSubtype) (bounds : Option Bounds) (of : Subtype) → after 1 ns ≡ Some 0 → bounds_in ns ≡ None → fit (Arrays index bounds of) (value_in (read ns)) ≡ Err Range
no_array_fits (ArrayNode left down ∷ Right right ∷ ns) index bounds of h e = absurd cc
no_array_fits [] index bounds of h e = refl
no_array_fits (Integer x ∷ ns) index bounds of h e = refl
no_array_fits (Literal x ∷ ns) index bounds of h e = refl
no_array_fits (Time x ∷ ns) index bounds of h e = refl
no_array_fits (FieldsNode n ∷ ns) index bounds of h e = refl
no_array_fits (x ∷ ns) index bounds of h e = refl

-- records made one of a subtype
pub no_record_fits : (ns : List Node) (of : Subtypes) → after 1 ns ≡ Some 0 → fields_in ns ≡ None → fit (Records of) (value_in (read ns)) ≡ Err Range
no_record_fits (FieldsNode k ∷ ns) of h e = absurd cc
no_record_fits [] of h e = refl
no_record_fits (Integer x ∷ ns) of h e = refl
no_record_fits (Literal x ∷ ns) of h e = refl
no_record_fits (Time x ∷ ns) of h e = refl
no_record_fits (ArrayNode left down ∷ Right right ∷ ns) of h e = refl
no_record_fits (x ∷ ns) of h e = refl

pub record_fits : (ns : List Node) (n fields : ℕ) (of : Subtypes) → IsRecord ns n → n ≡ fields → number_of of ≡ fields → fit (Records of) (value_in (read ns)) ≡ Ok (value_in (read ns))
record_fits ns n fields of a same many =
    let vs = read (drop 1 ns) in
    let long : count vs ≡ n = counted n (drop 1 ns) a.whole in
    ap (fit (Records of)) a.is ∙ if_true (count vs == number_of of) (Ok (Fields vs)) (Err Range) (same_test (count vs) (number_of of) (long ∙ same ∙ sym many)) ∙ ap (λ v. Ok v) (sym a.is)

pub record_fails : (ns : List Node) (n fields : ℕ) (of : Subtypes) → IsRecord ns n → (n ≡ fields → ⊥) → number_of of ≡ fields → fit (Records of) (value_in (read ns)) ≡ Err Range
record_fails ns n fields of a apart many =
    let vs = read (drop 1 ns) in
    let long : count vs ≡ n = counted n (drop 1 ns) a.whole in
    ap (fit (Records of)) a.is ∙ if_false (count vs == number_of of) (Ok (Fields vs)) (Err Range) (no_test (count vs) (number_of of) (λ e. apart (sym long ∙ e ∙ many)))

many_elements : (ns : List Node) (b : Bounds) → IsArray ns b → count (read (drop 2 ns)) ≡ length_of b
many_elements ns b a = counted (length_of b) (drop 2 ns) a.whole

-- an array under its own bounds
pub own_fits : (ns : List Node) (b : Bounds) (index : ScalarSubtype) (of : Subtype) → IsArray ns b → lies_within index.range b ≡ true → fit (Arrays index None of) (value_in (read ns)) ≡ Ok (value_in (read ns))
own_fits ns b index of a h =
    let vs = read (drop 2 ns) in
    ap (fit (Arrays index None of)) a.is
    ∙ if_true (lies_within index.range b) (array_of b vs) (Err Index) h
    ∙ if_true (count vs == length_of b) (Ok (Array b vs)) (Err Range) (same_test (count vs) (length_of b) (many_elements ns b a))
    ∙ ap (λ v. Ok v) (sym a.is)

pub own_outside : (ns : List Node) (b : Bounds) (index : ScalarSubtype) (of : Subtype) → IsArray ns b → lies_within index.range b ≡ false → fit (Arrays index None of) (value_in (read ns)) ≡ Err Index
own_outside ns b index of a h = ap (fit (Arrays index None of)) a.is ∙ if_false (lies_within index.range b) (array_of b (read (drop 2 ns))) (Err Index) h

-- an array under the bounds of its subtype
pub under_fits : (ns : List Node) (own b : Bounds) (index : ScalarSubtype) (of : Subtype) (made : List Node) → IsArray ns own → length_of own ≡ length_of b → made ≡ ArrayNode b.left b.down ∷ Right b.right ∷ drop 2 ns →
    (after 1 made ≡ Some 0) × (fit (Arrays index (Some b) of) (value_in (read ns)) ≡ Ok (value_in (read made)))
under_fits ns own b index of made a same is =
    let vs = read (drop 2 ns) in
    let many : count vs ≡ length_of b = many_elements ns own a ∙ same in
    let n : length_of b + 0 ≡ length_of own = omega arith in
    let made_is : value_in (read made) ≡ Array b vs = ap (λ xs. value_in (read xs)) is ∙ ap (Array b) (first_all (length_of b) vs (omega arith)) in (
      ap (after 1) is ∙ ap (λ m. after m (drop 2 ns)) n ∙ a.whole,
      ap (fit (Arrays index (Some b) of)) a.is
          ∙ if_true (count vs == length_of b) (Ok (Array b vs)) (Err Length) (same_test (count vs) (length_of b) many)
          ∙ ap (λ v. Ok v) (sym made_is),
    )

pub under_fails : (ns : List Node) (own b : Bounds) (index : ScalarSubtype) (of : Subtype) → IsArray ns own → (length_of own ≡ length_of b → ⊥) → fit (Arrays index (Some b) of) (value_in (read ns)) ≡ Err Length
under_fails ns own b index of a differ =
    let vs = read (drop 2 ns) in
    let many : count vs ≡ length_of own = many_elements ns own a in
    ap (fit (Arrays index (Some b) of)) a.is
    ∙ if_false (count vs == length_of b) (Ok (Array b vs)) (Err Length) (no_test (count vs) (length_of b) (λ e. differ (sym many ∙ e)))

pub two_set : (ns : List Node) (a b : Node) → 2 ≤ length ns → slice_set (slice_set ns 0 a) 1 b ≡ a ∷ b ∷ drop 2 ns
two_set [] a b h = absurd (omega arith)
two_set (x ∷ []) a b h = absurd (omega arith)
two_set (x ∷ y ∷ ns) a b h = refl

-- ---- answers

pub made_whole : (r : Result (Vec Node Global) ValueEnd) (g : OrStop (Value Scalar)) → MadeNodes r g → IfOk r (λ ns. after 1 ns.items ≡ Some 0)
made_whole (Ok ns) g h = h.0
made_whole (Err e) g h = tt

pub one_scalar : (n : Node) (x : Scalar) → scalar_in (n ∷ []) ≡ Some x → (after 1 (n ∷ []) ≡ Some 0) × (value_in (read (n ∷ [])) ≡ One x)
one_scalar (Integer y) x e = (refl, ap One (scalar_same (OfInteger y) x e))
one_scalar (Literal y) x e = (refl, ap One (scalar_same (OfLiteral y) x e))
one_scalar (Time y) x e = (refl, ap One (scalar_same (OfTime y) x e))
one_scalar (ArrayNode l d) x e = absurd cc
one_scalar (Right r) x e = absurd cc
one_scalar (FieldsNode k) x e = absurd cc

-- the scalar and the bounds that a value has
pub scalar_known : (ns : List Node) → after 1 ns ≡ Some 0 → scalar_in ns ≡ scalar_of (value_in (read ns))
scalar_known [] h = absurd (let f : 1 ≡ 0 = some_same 1 0 h in omega arith)
scalar_known (Integer x ∷ ns) h = refl
scalar_known (Literal x ∷ ns) h = refl
scalar_known (Time x ∷ ns) h = refl
scalar_known (ArrayNode l d ∷ Right r ∷ ns) h = refl
scalar_known (FieldsNode k ∷ ns) h = refl
scalar_known (x ∷ ns) h = absurd cc

pub bounds_known : (ns : List Node) → after 1 ns ≡ Some 0 → bounds_in ns ≡ bounds_of (value_in (read ns))
bounds_known [] h = refl
bounds_known (Integer x ∷ ns) h = refl
bounds_known (Literal x ∷ ns) h = refl
bounds_known (Time x ∷ ns) h = refl
bounds_known (ArrayNode l d ∷ Right r ∷ ns) h = refl
bounds_known (FieldsNode k ∷ ns) h = refl
bounds_known (x ∷ ns) h = absurd cc

pub element_read_is : (ns : List Node) (b : Bounds) (i : ℤ) → IsArray ns b → is_within b i ≡ true → part (AtIndex i) (value_in (read ns)) ≡ Ok (value_in (first_of 1 (without (place_of b i) (read (drop 2 ns)))))
element_read_is ns b i a inside =
    let below : place_of b i < length_of b = place_below b i inside in
    let many : count (read (drop 2 ns)) ≡ length_of b = counted (length_of b) (drop 2 ns) a.whole in
    ap (part (AtIndex i)) a.is ∙ if_true (is_within b i) (item_at (place_of b i) (read (drop 2 ns))) (Err Index) inside ∙ item_there_is (place_of b i) (read (drop 2 ns)) (omega arith)

pub field_read_is : (ns : List Node) (n place : ℕ) → IsRecord ns n → place < n → part (AtField place) (value_in (read ns)) ≡ Ok (value_in (first_of 1 (without place (read (drop 1 ns)))))
field_read_is ns n place a below =
    let many : count (read (drop 1 ns)) ≡ n = counted n (drop 1 ns) a.whole in
    ap (part (AtField place)) a.is ∙ item_there_is place (read (drop 1 ns)) (omega arith)

pub element_made : (ns : List Node) (b : Bounds) (i : ℤ) (made : List Node) → IsArray ns b → is_within b i ≡ true → read made ≡ first_of 1 (without (place_of b i) (read (take (length ns - 2) (drop 2 ns)))) → part (AtIndex i) (value_in (read ns)) ≡ Ok (value_in (read made))
element_made ns b i made a inside e =
    element_read_is ns b i a inside
    ∙ ap (λ xs. Ok (value_in (first_of 1 (without (place_of b i) (read xs))))) (sym (tail_of 2 ns))
    ∙ ap (λ vs. Ok (value_in vs)) (sym e)

pub field_made : (ns : List Node) (n place : ℕ) (made : List Node) → IsRecord ns n → place < n → read made ≡ first_of 1 (without place (read (take (length ns - 1) (drop 1 ns)))) → part (AtField place) (value_in (read ns)) ≡ Ok (value_in (read made))
field_made ns n place made a below e =
    field_read_is ns n place a below
    ∙ ap (λ xs. Ok (value_in (first_of 1 (without place (read xs))))) (sym (tail_of 1 ns))
    ∙ ap (λ vs. Ok (value_in vs)) (sym e)

-- ---- parts

pub array_parts : (ns : List Node) (b : Bounds) → IsArray ns b → read (drop 2 ns) ≡ items_in (value_in (read ns))
array_parts ns b a = sym (ap items_in a.is)

pub record_parts : (ns : List Node) (n : ℕ) → IsRecord ns n → read (drop 1 ns) ≡ items_in (value_in (read ns))
record_parts ns n a = sym (ap items_in a.is)

pub no_parts : (ns : List Node) → after 1 ns ≡ Some 0 → bounds_in ns ≡ None → fields_in ns ≡ None → read [] ≡ items_in (value_in (read ns))
no_parts [] h e f = refl
no_parts (Integer x ∷ ns) h e f = refl
no_parts (Literal x ∷ ns) h e f = refl
no_parts (Time x ∷ ns) h e f = refl
no_parts (ArrayNode left down ∷ Right right ∷ ns) h e f = absurd cc
no_parts (FieldsNode n ∷ ns) h e f = absurd cc
no_parts (x ∷ ns) h e f = absurd cc
