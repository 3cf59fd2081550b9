-- Arrays of discrete elements and equal values, over their nodes.
use Rattle.std.proofs.Common.{◌≡◌, ◌<◌, ◌≤◌, ℕ, zero, suc, ◌+◌, ◌-◌, ℤ, pos, Bool, true, false, List, [], ◌∷◌, ◌++◌, length, take, drop, map, get_or, Some, refl, sym, ap, ◌∙◌, subst, arith, append_assoc, drop-drop}
use Rattle.std.proofs.Math.Seq.{drop-cons}
use Rattle.std.proofs.lemmas.List.{length-drop}
use Rattle.std.specs.Prelude.{Ok, Err, ◌==◌, ◌&&◌}
use Rattle.vd_values.specs.declared.scalar.Scalar.{Scalar}
use Rattle.vd_values.specs.declared.scalar.StopKind.{StopKind}
use Rattle.vd_values.specs.declared.scalar.Scalar.TheVariants.{Literal as OfLiteral}
use Rattle.vd_composites.specs.declared.ranges.Bounds.{Bounds}
use Rattle.vd_composites.specs.declared.vectors.Elements.{Elements}
use Rattle.vd_composites.specs.declared.nodes.Node.{Node}
use Rattle.vd_composites.specs.declared.nodes.Node.TheVariants.{Integer, Literal, Time, Array as ArrayNode, Right, Fields as FieldsNode}
use Rattle.vd_composites.specs.Stops.{OrStop, ◌>>=◌}
use Rattle.vd_composites.specs.Ranges.{length_of}
use Rattle.vd_composites.specs.Composites.{One, Items, none, item, count, without, first_of, same_value, same_items}
use Rattle.vd_composites.specs.Nodes.{bounds_from, array_in_front, record_in_front, read, after, value_in, width_of}
use Rattle.vd_composites.specs.Vectors.{integer_position, positions_in, positions_as, literals, node_position, positions_at, First, AScalar, AnArray, ARecord, Nothing, first_in, same_first}
use Rattle.vd_composites.proofs.ItemLemmas.{count_first}
use Rattle.vd_composites.proofs.NodeLemmas.{some_same, counted}
use Rattle.vd_composites.proofs.NodeSteps.{tail_of}
use Rattle.vd_composites.proofs.ValueLemmas.{IsArray}
use Rattle.vd_composites.proofs.StopLemmas.{same_test, test_same}

-- ---- positions

more_of : (g : OrStop (List ℤ)) (made : List ℤ) (p : ℤ) → ((g >>= λ ps. Ok (p ∷ ps)) >>= λ ps. Ok (made ++ ps)) ≡ (g >>= λ ps. Ok ((made ++ p ∷ []) ++ ps))
more_of (Ok qs) made p = λ i. Ok (sym (append_assoc made (p ∷ []) qs) i)
more_of (Err e) made p = refl

-- one node more is read
pub one_read : (of : Elements) (made : List ℤ) (i : ℕ) (ns : List Node) (n : Node) (p : ℤ) → i < length ns → n ≡ get_or ns i n → node_position of n ≡ Ok p →
    (positions_at of (drop i ns) >>= λ ps. Ok (made ++ ps)) ≡ (positions_at of (drop (i + 1) ns) >>= λ ps. Ok ((made ++ p ∷ []) ++ ps))
one_read of made i ns n p below here e =
    let same : suc i ≡ i + 1 = omega arith in
    let split : drop i ns ≡ n ∷ drop (i + 1) ns = drop-cons ns i n below ∙ (λ j. sym here j ∷ drop (same j) ns) in
    ap (λ xs. positions_at of xs >>= λ ps. Ok (made ++ ps)) split
    ∙ ap (λ g. (g >>= λ q. positions_at of (drop (i + 1) ns) >>= λ ps. Ok (q ∷ ps)) >>= λ ps. Ok (made ++ ps)) e
    ∙ more_of (positions_at of (drop (i + 1) ns)) made p

pub none_read : (of : Elements) (made : List ℤ) (i : ℕ) (ns : List Node) (n : Node) (e : StopKind) → i < length ns → n ≡ get_or ns i n → node_position of n ≡ Err e →
    (positions_at of (drop i ns) >>= λ ps. Ok (made ++ ps)) ≡ Err e
none_read of made i ns n k below here e =
    let split : drop i ns ≡ n ∷ drop (suc i) ns = drop-cons ns i n below ∙ (λ j. sym here j ∷ drop (suc i) ns) in
    ap (λ xs. positions_at of xs >>= λ ps. Ok (made ++ ps)) split
    ∙ ap (λ g. (g >>= λ q. positions_at of (drop (suc i) ns) >>= λ ps. Ok (q ∷ ps)) >>= λ ps. Ok (made ++ ps)) e

-- nothing was read yet
pub unread : (g : OrStop (List ℤ)) → (g >>= λ ps. Ok ([] ++ ps)) ≡ g
unread (Ok ps) = refl
unread (Err e) = refl

-- items of nodes have the positions of the nodes
pub same_positions : (of : Elements) (m : ℕ) (ns : List Node) → after m ns ≡ Some 0 → positions_in of (read ns) ≡ positions_at of ns
same_positions of m [] h = refl
same_positions of zero (x ∷ ns) h = absurd cc
same_positions of (suc m) (Integer x ∷ ns) h = ap (λ g. integer_position of x >>= λ p. g >>= λ ps. Ok (p ∷ ps)) (same_positions of m ns h)
same_positions of (suc m) (Literal n ∷ ns) h = ap (λ g. g >>= λ ps. Ok (pos n ∷ ps)) (same_positions of m ns h)
same_positions of (suc m) (Time t ∷ ns) h = refl
same_positions of (suc m) (ArrayNode left down ∷ Right right ∷ ns) h = refl
same_positions of (suc m) (FieldsNode n ∷ ns) h = refl
same_positions of (suc m) (x ∷ ns) h = absurd cc

pub array_positions : (of : Elements) (ns : List Node) (b : Bounds) → IsArray ns b → positions_as of (value_in (read ns)) ≡ positions_at of (take (length ns - 2) (drop 2 ns))
array_positions of ns b a = ap (positions_as of) a.is ∙ same_positions of (length_of b) (drop 2 ns) a.whole ∙ ap (positions_at of) (sym (tail_of 2 ns))

-- ---- literals

pub literal_nodes_whole : (ps : List ℕ) (k : ℕ) → after (length ps + k) (map (λ p. Literal p) ps) ≡ Some k
literal_nodes_whole [] k = let e : 0 + k ≡ k = omega arith in ap Some e
literal_nodes_whole (p ∷ ps) k = let e : suc (length ps) + k ≡ suc (length ps + k) = omega arith in ap (λ m. after m (Literal p ∷ map (λ p. Literal p) ps)) e ∙ literal_nodes_whole ps k

pub literal_nodes_read : (ps : List ℕ) → read (map (λ p. Literal p) ps) ≡ literals ps
literal_nodes_read [] = refl
literal_nodes_read (p ∷ ps) = ap (item (One (OfLiteral p))) (literal_nodes_read ps)

-- as many literals as are wanted
pub literal_nodes_after : (ps : List ℕ) → after (length ps) (map (λ p. Literal p) ps) ≡ Some 0
literal_nodes_after ps = let e : length ps + 0 ≡ length ps = omega arith in ap (λ m. after m (map (λ p. Literal p) ps)) (sym e) ∙ literal_nodes_whole ps 0

pub count_literals : (ps : List ℕ) → count (literals ps) ≡ length ps
count_literals [] = refl
count_literals (p ∷ ps) = ap suc (count_literals ps)

-- ---- equality

and_false : (a b : Bool) → b ≡ false → (a && b) ≡ false
and_false true b h = h
and_false false b h = refl

and_more : (a b c : Bool) → ((a && b) && c) ≡ (a && (b && c))
and_more true b c = refl
and_more false b c = refl

same_count : (vs ws : Items Scalar) → (count vs ≡ count ws → ⊥) → same_items vs ws ≡ false
same_count none none h = absurd (h refl)
same_count none (item w ws) h = refl
same_count (item v vs) none h = refl
same_count (item v vs) (item w ws) h = and_false (same_value v w) (same_items vs ws) (same_count vs ws (λ e. h (ap suc e)))

same_split : (n : ℕ) (vs ws : Items Scalar) → n ≤ count vs → n ≤ count ws → (same_items (first_of n vs) (first_of n ws) && same_items (without n vs) (without n ws)) ≡ same_items vs ws
same_split zero vs ws h g = refl
same_split (suc n) none ws h g = absurd (omega arith)
same_split (suc n) (item v vs) none h g = absurd (omega arith)
same_split (suc n) (item v vs) (item w ws) h g =
    and_more (same_value v w) (same_items (first_of n vs) (first_of n ws)) (same_items (without n vs) (without n ws))
    ∙ ap (λ b. same_value v w && b) (same_split n vs ws (omega arith) (omega arith))

-- the parts of two arrays or of two records, and what stands behind them
same_parts_by : (b : Bool) (m n k : ℕ) (vs ws : Items Scalar) → (m == n) ≡ b → count vs ≡ m + k → count ws ≡ n + k →
    (same_items (first_of m vs) (first_of n ws) && same_items (without m vs) (without n ws)) ≡ (b && same_items vs ws)
same_parts_by true m n k vs ws e h g =
    let same : m ≡ n = test_same m n e in
    subst (λ i. (same_items (first_of m vs) (first_of i ws) && same_items (without m vs) (without i ws)) ≡ same_items vs ws) same (same_split m vs ws (omega arith) (omega arith))
same_parts_by false m n k vs ws e h g =
    let apart : m ≡ n → ⊥ = λ same. (let t : (m == n) ≡ true = same_test m n same in absurd cc) in
    let one : count (first_of m vs) ≡ m = count_first m vs (omega arith) in
    let two : count (first_of n ws) ≡ n = count_first n ws (omega arith) in
    let front : same_items (first_of m vs) (first_of n ws) ≡ false = same_count (first_of m vs) (first_of n ws) (λ s. apart (sym one ∙ s ∙ two)) in
    ap (λ b. b && same_items (without m vs) (without n ws)) front

same_parts : (m n k : ℕ) (vs ws : Items Scalar) → count vs ≡ m + k → count ws ≡ n + k →
    (same_items (first_of m vs) (first_of n ws) && same_items (without m vs) (without n ws)) ≡ ((m == n) && same_items vs ws)
same_parts m n k vs ws h g = same_parts_by (m == n) m n k vs ws refl h g

-- how many parts begin, and the items that a beginning makes of those behind it
parts_of : First → ℕ
parts_of (AScalar x) = 0
parts_of (AnArray b) = length_of b
parts_of (ARecord n) = n
parts_of Nothing = 0

wide : First → ℕ
wide (AnArray b) = 2
wide _ = 1

abbrev opened : First → Items Scalar → Items Scalar
opened (AScalar x) vs = item (One x) vs
opened (AnArray b) vs = array_in_front b vs
opened (ARecord n) vs = record_in_front n vs
opened Nothing vs = none

abbrev IsSome : First → Type 0
IsSome Nothing = ⊥
IsSome _ = Unit {0}

record Opens (k : ℕ) (ns : List Node) : Type 0 where
  some : IsSome (first_in ns)
  is : read ns ≡ opened (first_in ns) (read (drop (width_of ns) ns))
  whole : after (parts_of (first_in ns) + k) (drop (width_of ns) ns) ≡ Some 0
  within : width_of ns ≤ length ns
  width : width_of ns ≡ wide (first_in ns)

opens : (m k : ℕ) (ns : List Node) → m ≡ suc k → after m ns ≡ Some 0 → Opens k ns
unfolding parts_of wide
opens m k [] e h = absurd (let z : m ≡ 0 = some_same m 0 h in omega arith)
opens zero k (x ∷ ns) e h = absurd (omega arith)
opens (suc m) k (Integer x ∷ ns) e h = let f : m ≡ 0 + k = omega arith in record { some = tt; is = refl; whole = ap (λ i. after i ns) (sym f) ∙ h; within = omega arith; width = refl }
opens (suc m) k (Literal x ∷ ns) e h = let f : m ≡ 0 + k = omega arith in record { some = tt; is = refl; whole = ap (λ i. after i ns) (sym f) ∙ h; within = omega arith; width = refl }
opens (suc m) k (Time x ∷ ns) e h = let f : m ≡ 0 + k = omega arith in record { some = tt; is = refl; whole = ap (λ i. after i ns) (sym f) ∙ h; within = omega arith; width = refl }
opens (suc m) k (ArrayNode left down ∷ Right right ∷ ns) e h =
    let f : length_of (bounds_from left down right) + m ≡ length_of (bounds_from left down right) + k = omega arith in
    record { some = tt; is = refl; whole = ap (λ i. after i ns) (sym f) ∙ h; within = omega arith; width = refl }
opens (suc m) k (FieldsNode n ∷ ns) e h = let f : n + m ≡ n + k = omega arith in record { some = tt; is = refl; whole = ap (λ i. after i ns) (sym f) ∙ h; within = omega arith; width = refl }
opens (suc m) k (x ∷ ns) e h = absurd cc

same_opened : (f g : First) (k : ℕ) (vs ws : Items Scalar) → IsSome f → IsSome g → count vs ≡ parts_of f + k → count ws ≡ parts_of g + k →
    same_items (opened f vs) (opened g ws) ≡ (same_first f g && same_items vs ws)
unfolding parts_of
same_opened Nothing g k vs ws s t h e = absurd s
same_opened (AScalar x) Nothing k vs ws s t h e = absurd t
same_opened (AnArray x) Nothing k vs ws s t h e = absurd t
same_opened (ARecord x) Nothing k vs ws s t h e = absurd t
same_opened (AScalar x) (AScalar y) k vs ws s t h e = refl
same_opened (AScalar x) (AnArray c) k vs ws s t h e = refl
same_opened (AScalar x) (ARecord n) k vs ws s t h e = refl
same_opened (AnArray b) (AScalar y) k vs ws s t h e = refl
same_opened (AnArray b) (AnArray c) k vs ws s t h e = same_parts (length_of b) (length_of c) k vs ws h e
same_opened (AnArray b) (ARecord n) k vs ws s t h e = refl
same_opened (ARecord m) (AScalar y) k vs ws s t h e = refl
same_opened (ARecord m) (AnArray c) k vs ws s t h e = refl
same_opened (ARecord m) (ARecord n) k vs ws s t h e = same_parts m n k vs ws h e

same_wanted : (f g : First) → IsSome f → IsSome g → same_first f g ≡ true → parts_of f ≡ parts_of g
unfolding parts_of
same_wanted Nothing g s t h = absurd s
same_wanted (AScalar x) Nothing s t h = absurd t
same_wanted (AnArray x) Nothing s t h = absurd t
same_wanted (ARecord x) Nothing s t h = absurd t
same_wanted (AScalar x) (AScalar y) s t h = refl
same_wanted (AnArray b) (AnArray c) s t h = test_same (length_of b) (length_of c) h
same_wanted (ARecord m) (ARecord n) s t h = test_same m n h
same_wanted (AScalar x) (AnArray c) s t h = absurd cc
same_wanted (AScalar x) (ARecord n) s t h = absurd cc
same_wanted (AnArray b) (AScalar y) s t h = absurd cc
same_wanted (AnArray b) (ARecord n) s t h = absurd cc
same_wanted (ARecord m) (AScalar y) s t h = absurd cc
same_wanted (ARecord m) (AnArray c) s t h = absurd cc

same_width : (f g : First) → IsSome f → IsSome g → same_first f g ≡ true → wide f ≡ wide g
unfolding wide
same_width Nothing g s t h = absurd s
same_width (AScalar x) Nothing s t h = absurd t
same_width (AnArray x) Nothing s t h = absurd t
same_width (ARecord x) Nothing s t h = absurd t
same_width (AScalar x) (AScalar y) s t h = refl
same_width (AnArray b) (AnArray c) s t h = refl
same_width (ARecord m) (ARecord n) s t h = refl
same_width (AScalar x) (AnArray c) s t h = absurd cc
same_width (AScalar x) (ARecord n) s t h = absurd cc
same_width (AnArray b) (AScalar y) s t h = absurd cc
same_width (AnArray b) (ARecord n) s t h = absurd cc
same_width (ARecord m) (AScalar y) s t h = absurd cc
same_width (ARecord m) (AnArray c) s t h = absurd cc

-- what is left to compare, from a place on
pub record SameRest (ns ms : List Node) (place : ℕ) : Type 0 where
  pub wanted : ℕ
  pub left : after wanted (drop place ns) ≡ Some 0
  pub right : after wanted (drop place ms) ≡ Some 0
  pub same : same_value (value_in (read ns)) (value_in (read ms)) ≡ same_items (read (drop place ns)) (read (drop place ms))

and_true : (b : Bool) → b ≡ (b && true)
and_true true = refl
and_true false = refl

of_one : (vs ws : Items Scalar) → count vs ≡ 1 → count ws ≡ 1 → same_value (value_in vs) (value_in ws) ≡ same_items vs ws
of_one none ws h g = absurd (omega arith)
of_one (item v vs) none h g = absurd (omega arith)
of_one (item v none) (item w none) h g = and_true (same_value v w)
of_one (item v none) (item w (item x ws)) h g = absurd (omega arith)
of_one (item v (item x vs)) (item w ws) h g = absurd (omega arith)

pub same_begin : (ns ms : List Node) → after 1 ns ≡ Some 0 → after 1 ms ≡ Some 0 → SameRest ns ms 0
same_begin ns ms h g = record { wanted = 1; left = h; right = g; same = of_one (read ns) (read ms) (counted 1 ns h) (counted 1 ms g) }

-- something is wanted while there are nodes
wanted_some : (k : ℕ) (ns : List Node) → 0 < length ns → after k ns ≡ Some 0 → (j : ℕ) × (k ≡ suc j)
wanted_some k [] some h = absurd (omega arith)
wanted_some zero (x ∷ ns) some h = absurd cc
wanted_some (suc k) (x ∷ ns) some h = (k, refl)

record Step (ns ms : List Node) : Type 0 where
  heads : same_items (read ns) (read ms) ≡ (same_first (first_in ns) (first_in ms) && same_items (read (drop (width_of ns) ns)) (read (drop (width_of ms) ms)))
  rest : same_first (first_in ns) (first_in ms) ≡ true → (j : ℕ) × (after j (drop (width_of ns) ns) ≡ Some 0) × (after j (drop (width_of ms) ms) ≡ Some 0)
  width : same_first (first_in ns) (first_in ms) ≡ true → width_of ns ≡ width_of ms

step_of : (k : ℕ) (ns ms : List Node) → 0 < length ns → after k ns ≡ Some 0 → after k ms ≡ Some 0 → Step ns ms
step_of k ns ms some h g =
    let more = wanted_some k ns some h in
    let j : ℕ = more.0 in
    let one : Opens j ns = opens k j ns more.1 h in
    let two : Opens j ms = opens k j ms more.1 g in
    let f = first_in ns in
    let e = first_in ms in
    let vs = read (drop (width_of ns) ns) in
    let ws = read (drop (width_of ms) ms) in
    record {
      heads = (λ i. same_items (one.is i) (two.is i)) ∙ same_opened f e j vs ws one.some two.some (counted (parts_of f + j) (drop (width_of ns) ns) one.whole) (counted (parts_of e + j) (drop (width_of ms) ms) two.whole);
      rest = λ same. (parts_of f + j, one.whole, ap (λ i. after (i + j) (drop (width_of ms) ms)) (same_wanted f e one.some two.some same) ∙ two.whole);
      width = λ same. one.width ∙ same_width f e one.some two.some same ∙ sym two.width;
    }

pub same_step : (ns ms : List Node) (place : ℕ) → place < length ns → SameRest ns ms place → same_first (first_in (drop place ns)) (first_in (drop place ms)) ≡ true →
    SameRest ns ms (place + width_of (drop place ns))
same_step ns ms place below r same =
    let long : length (drop place ns) ≡ length ns - place = length-drop place ns in
    let step = step_of r.wanted (drop place ns) (drop place ms) (omega arith) r.left r.right in
    let w = width_of (drop place ns) in
    let rest = step.rest same in
    let one : drop w (drop place ns) ≡ drop (place + w) ns = drop-drop w place ns in
    let two : drop (width_of (drop place ms)) (drop place ms) ≡ drop (place + w) ms = ap (λ i. drop i (drop place ms)) (sym (step.width same)) ∙ drop-drop w place ms in
    record {
      wanted = rest.0;
      left = ap (after rest.0) (sym one) ∙ rest.1;
      right = ap (after rest.0) (sym two) ∙ rest.2;
      same = r.same ∙ step.heads ∙ ap (λ b. b && same_items (read (drop w (drop place ns))) (read (drop (width_of (drop place ms)) (drop place ms)))) same ∙ (λ i. same_items (read (one i)) (read (two i)));
    }

pub same_not : (ns ms : List Node) (place : ℕ) → place < length ns → SameRest ns ms place → same_first (first_in (drop place ns)) (first_in (drop place ms)) ≡ false →
    same_value (value_in (read ns)) (value_in (read ms)) ≡ false
same_not ns ms place below r apart =
    let long : length (drop place ns) ≡ length ns - place = length-drop place ns in
    let step = step_of r.wanted (drop place ns) (drop place ms) (omega arith) r.left r.right in
    r.same ∙ step.heads ∙ ap (λ b. b && same_items (read (drop (width_of (drop place ns)) (drop place ns))) (read (drop (width_of (drop place ms)) (drop place ms)))) apart

nothing_wanted : (k : ℕ) (ns ms : List Node) → length ns ≡ 0 → after k ns ≡ Some 0 → after k ms ≡ Some 0 → same_items (read ns) (read ms) ≡ true
nothing_wanted k (x ∷ ns) ms z h g = absurd (omega arith)
nothing_wanted zero [] [] z h g = refl
nothing_wanted zero [] (x ∷ ms) z h g = absurd cc
nothing_wanted (suc k) [] ms z h g = absurd (let e : suc k ≡ 0 = some_same (suc k) 0 h in omega arith)

nothing_wanted_too : (k : ℕ) (ns ms : List Node) → length ms ≡ 0 → after k ns ≡ Some 0 → after k ms ≡ Some 0 → same_items (read ns) (read ms) ≡ true
nothing_wanted_too k ns (x ∷ ms) z h g = absurd (omega arith)
nothing_wanted_too zero [] [] z h g = refl
nothing_wanted_too zero (x ∷ ns) [] z h g = absurd cc
nothing_wanted_too (suc k) ns [] z h g = absurd (let e : suc k ≡ 0 = some_same (suc k) 0 g in omega arith)

pub same_end_left : (ns ms : List Node) (place : ℕ) → length ns ≤ place → SameRest ns ms place → same_value (value_in (read ns)) (value_in (read ms)) ≡ true
same_end_left ns ms place end r =
    let long : length (drop place ns) ≡ length ns - place = length-drop place ns in
    r.same ∙ nothing_wanted r.wanted (drop place ns) (drop place ms) (omega arith) r.left r.right

pub same_end_right : (ns ms : List Node) (place : ℕ) → length ms ≤ place → SameRest ns ms place → same_value (value_in (read ns)) (value_in (read ms)) ≡ true
same_end_right ns ms place end r =
    let long : length (drop place ms) ≡ length ms - place = length-drop place ms in
    r.same ∙ nothing_wanted_too r.wanted (drop place ns) (drop place ms) (omega arith) r.left r.right

pub head_wanted_here : (ns ms : List Node) (place : ℕ) → place < length ns → SameRest ns ms place → (m : ℕ) × (after (suc m) (drop place ns) ≡ Some 0)
head_wanted_here ns ms place below r =
    let long : length (drop place ns) ≡ length ns - place = length-drop place ns in
    let more = wanted_some r.wanted (drop place ns) (omega arith) r.left in
    (more.0, ap (λ i. after i (drop place ns)) (sym more.1) ∙ r.left)

-- the tails as code takes them
pub same_tails : (place : ℕ) (ns ms : List Node) →
    same_first (first_in (drop place ns)) (first_in (drop place ms))
    ≡ same_first (first_in (take (length ns - place) (drop place ns))) (first_in (take (length ms - place) (drop place ms)))
same_tails place ns ms = λ i. same_first (first_in (sym (tail_of place ns) i)) (first_in (sym (tail_of place ms) i))
