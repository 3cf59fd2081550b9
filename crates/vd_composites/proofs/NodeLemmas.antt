-- Nodes and the items that they make.
use Rattle.std.proofs.Common.{◌≡◌, ◌<◌, ◌≤◌, ℕ, zero, suc, ◌+◌, List, [], ◌∷◌, ◌++◌, length, take, drop, ◌-◌, Some, refl, sym, ap, ◌∙◌, subst, arith}
use Rattle.std.proofs.lemmas.List.{take-append-drop, length-drop}
use Rattle.std.proofs.Math.Seq.{take-add}
use Rattle.vd_values.specs.declared.scalar.Scalar.{Scalar}
use Rattle.vd_values.specs.declared.scalar.Scalar.TheVariants.{Integer as OfInteger, Literal as OfLiteral, Time as OfTime}
use Rattle.vd_composites.specs.declared.ranges.Bounds.{Bounds}
use Rattle.vd_composites.specs.declared.nodes.Node.{Node}
use Rattle.vd_composites.specs.declared.nodes.Node.TheVariants.{Integer, Literal, Time, Array as ArrayNode, Right, Fields as FieldsNode}
use Rattle.vd_composites.specs.Ranges.{length_of}
use Rattle.vd_composites.specs.Composites.{One, Array, Fields, Items, none, item, count, joined, without, first_of}
use Rattle.vd_composites.specs.Nodes.{bounds_from, array_in_front, record_in_front, read, after, width_of, parts_in, bounds_in}
use Rattle.vd_composites.proofs.ItemLemmas.{count_without}

pub some_same : (m n : ℕ) → Some m ≡ Some n → m ≡ n
some_same m n h = cc

-- what stands behind some nodes that are read
pub after_both : (m k : ℕ) (xs ys : List Node) → after m xs ≡ Some k → after m (xs ++ ys) ≡ after k ys
after_both m k [] ys h = ap (λ n. after n ys) (some_same m k h)
after_both zero k (x ∷ xs) ys h = absurd cc
after_both (suc m) k (Integer x ∷ xs) ys h = after_both m k xs ys h
after_both (suc m) k (Literal p ∷ xs) ys h = after_both m k xs ys h
after_both (suc m) k (Time t ∷ xs) ys h = after_both m k xs ys h
after_both (suc m) k (ArrayNode left down ∷ Right right ∷ xs) ys h = after_both (length_of (bounds_from left down right) + m) k xs ys h
after_both (suc m) k (FieldsNode n ∷ xs) ys h = after_both (n + m) k xs ys h
after_both (suc m) k (x ∷ xs) ys h = absurd cc

-- where more are wanted
pub after_more : (m k j : ℕ) (xs : List Node) → after m xs ≡ Some k → after (m + j) xs ≡ Some (k + j)
after_more m k j [] h = ap (λ n. Some (n + j)) (some_same m k h)
after_more zero k j (x ∷ xs) h = absurd cc
after_more (suc m) k j (Integer x ∷ xs) h = let e : suc m + j ≡ suc (m + j) = omega arith in subst (λ n. after n (Integer x ∷ xs) ≡ Some (k + j)) (sym e) (after_more m k j xs h)
after_more (suc m) k j (Literal p ∷ xs) h = let e : suc m + j ≡ suc (m + j) = omega arith in subst (λ n. after n (Literal p ∷ xs) ≡ Some (k + j)) (sym e) (after_more m k j xs h)
after_more (suc m) k j (Time t ∷ xs) h = let e : suc m + j ≡ suc (m + j) = omega arith in subst (λ n. after n (Time t ∷ xs) ≡ Some (k + j)) (sym e) (after_more m k j xs h)
after_more (suc m) k j (ArrayNode left down ∷ Right right ∷ xs) h =
    let e : suc m + j ≡ suc (m + j) = omega arith in
    let f : length_of (bounds_from left down right) + m + j ≡ length_of (bounds_from left down right) + (m + j) = omega arith in
    subst (λ n. after n (ArrayNode left down ∷ Right right ∷ xs) ≡ Some (k + j)) (sym e)
    (subst (λ n. after n xs ≡ Some (k + j)) f (after_more (length_of (bounds_from left down right) + m) k j xs h))
after_more (suc m) k j (FieldsNode n ∷ xs) h =
    let e : suc m + j ≡ suc (m + j) = omega arith in
    let f : n + m + j ≡ n + (m + j) = omega arith in
    subst (λ i. after i (FieldsNode n ∷ xs) ≡ Some (k + j)) (sym e)
    (subst (λ i. after i xs ≡ Some (k + j)) f (after_more (n + m) k j xs h))
after_more (suc m) k j (x ∷ xs) h = absurd cc

-- at most as many are wanted as there are nodes
pub wanted_fit : (m k : ℕ) (xs : List Node) → after m xs ≡ Some k → m ≤ length xs + k
wanted_fit m k [] h = let e : m ≡ k = some_same m k h in omega arith
wanted_fit zero k (x ∷ xs) h = omega arith
wanted_fit (suc m) k (Integer x ∷ xs) h = let e : m ≤ length xs + k = wanted_fit m k xs h in omega arith
wanted_fit (suc m) k (Literal p ∷ xs) h = let e : m ≤ length xs + k = wanted_fit m k xs h in omega arith
wanted_fit (suc m) k (Time t ∷ xs) h = let e : m ≤ length xs + k = wanted_fit m k xs h in omega arith
wanted_fit (suc m) k (ArrayNode left down ∷ Right right ∷ xs) h = let e : length_of (bounds_from left down right) + m ≤ length xs + k = wanted_fit (length_of (bounds_from left down right) + m) k xs h in omega arith
wanted_fit (suc m) k (FieldsNode n ∷ xs) h = let e : n + m ≤ length xs + k = wanted_fit (n + m) k xs h in omega arith
wanted_fit (suc m) k (x ∷ xs) h = absurd cc

array_counted : (b : Bounds) (m : ℕ) (vs : Items Scalar) → count vs ≡ length_of b + m → count (array_in_front b vs) ≡ suc m
array_counted b m vs h = let e : length_of b + count (without (length_of b) vs) ≡ count vs = count_without (length_of b) vs (omega arith) in omega arith

record_counted : (n m : ℕ) (vs : Items Scalar) → count vs ≡ n + m → count (record_in_front n vs) ≡ suc m
record_counted n m vs h = let e : n + count (without n vs) ≡ count vs = count_without n vs (omega arith) in omega arith

-- as many items as were wanted
pub counted : (m : ℕ) (xs : List Node) → after m xs ≡ Some 0 → count (read xs) ≡ m
counted m [] h = sym (some_same m 0 h)
counted zero (x ∷ xs) h = absurd cc
counted (suc m) (Integer x ∷ xs) h = ap suc (counted m xs h)
counted (suc m) (Literal p ∷ xs) h = ap suc (counted m xs h)
counted (suc m) (Time t ∷ xs) h = ap suc (counted m xs h)
counted (suc m) (ArrayNode left down ∷ Right right ∷ xs) h = array_counted (bounds_from left down right) m (read xs) (counted (length_of (bounds_from left down right) + m) xs h)
counted (suc m) (FieldsNode n ∷ xs) h = record_counted n m (read xs) (counted (n + m) xs h)
counted (suc m) (x ∷ xs) h = absurd cc

first_of_more : (n : ℕ) (vs ws : Items Scalar) → n ≤ count vs → first_of n (joined vs ws) ≡ first_of n vs
first_of_more zero vs ws h = refl
first_of_more (suc n) none ws h = absurd (omega arith)
first_of_more (suc n) (item v vs) ws h = ap (item v) (first_of_more n vs ws (omega arith))

without_of_more : (n : ℕ) (vs ws : Items Scalar) → n ≤ count vs → without n (joined vs ws) ≡ joined (without n vs) ws
without_of_more zero vs ws h = refl
without_of_more (suc n) none ws h = absurd (omega arith)
without_of_more (suc n) (item v vs) ws h = without_of_more n vs ws (omega arith)

array_joined : (b : Bounds) (m : ℕ) (us vs ws : Items Scalar) → count vs ≡ length_of b + m → us ≡ joined vs ws → array_in_front b us ≡ joined (array_in_front b vs) ws
array_joined b m us vs ws h e =
    ap (array_in_front b) e
    ∙ ap (λ (xs : Items Scalar). item (Array b xs) (without (length_of b) (joined vs ws))) (first_of_more (length_of b) vs ws (omega arith))
    ∙ ap (item (Array b (first_of (length_of b) vs))) (without_of_more (length_of b) vs ws (omega arith))

record_joined : (n m : ℕ) (us vs ws : Items Scalar) → count vs ≡ n + m → us ≡ joined vs ws → record_in_front n us ≡ joined (record_in_front n vs) ws
record_joined n m us vs ws h e =
    ap (record_in_front n) e
    ∙ ap (λ (xs : Items Scalar). item (Fields xs) (without n (joined vs ws))) (first_of_more n vs ws (omega arith))
    ∙ ap (item (Fields (first_of n vs))) (without_of_more n vs ws (omega arith))

-- items of nodes and then of others
pub read_both : (m : ℕ) (xs ys : List Node) → after m xs ≡ Some 0 → read (xs ++ ys) ≡ joined (read xs) (read ys)
read_both m [] ys h = refl
read_both zero (x ∷ xs) ys h = absurd cc
read_both (suc m) (Integer x ∷ xs) ys h = ap (item (One (OfInteger x))) (read_both m xs ys h)
read_both (suc m) (Literal p ∷ xs) ys h = ap (item (One (OfLiteral p))) (read_both m xs ys h)
read_both (suc m) (Time t ∷ xs) ys h = ap (item (One (OfTime t))) (read_both m xs ys h)
read_both (suc m) (ArrayNode left down ∷ Right right ∷ xs) ys h =
    array_joined (bounds_from left down right) m (read (xs ++ ys)) (read xs) (read ys) (counted (length_of (bounds_from left down right) + m) xs h) (read_both (length_of (bounds_from left down right) + m) xs ys h)
read_both (suc m) (FieldsNode n ∷ xs) ys h =
    record_joined n m (read (xs ++ ys)) (read xs) (read ys) (counted (n + m) xs h) (read_both (n + m) xs ys h)
read_both (suc m) (x ∷ xs) ys h = absurd cc

-- ---- the first item, and the first items

-- what is wanted behind the head of the first item
pub record HeadRead (m k : ℕ) (xs : List Node) : Type 0 where
  pub within : width_of xs ≤ length xs
  pub head : (j : ℕ) → after (suc j) (take (width_of xs) xs) ≡ Some (parts_in xs + j)
  pub some : 0 < width_of xs

pub head_read : (m : ℕ) (xs : List Node) → after (suc m) xs ≡ Some 0 → HeadRead m 0 xs
head_read m [] h = absurd (let e : suc m ≡ 0 = some_same (suc m) 0 h in omega arith)
head_read m (Integer x ∷ xs) h = record { within = omega arith; head = λ j. ap Some (omega arith); some = omega arith }
head_read m (Literal p ∷ xs) h = record { within = omega arith; head = λ j. ap Some (omega arith); some = omega arith }
head_read m (Time t ∷ xs) h = record { within = omega arith; head = λ j. ap Some (omega arith); some = omega arith }
head_read m (ArrayNode left down ∷ Right right ∷ xs) h = record { within = omega arith; head = λ j. refl; some = omega arith }
head_read m (FieldsNode n ∷ xs) h = record { within = omega arith; head = λ j. refl; some = omega arith }
head_read m (x ∷ xs) h = absurd cc

pub scalar_same : (x y : Scalar) → Some x ≡ Some y → x ≡ y
scalar_same x y h = cc

pub bounds_same : (b c : Bounds) → Some b ≡ Some c → b ≡ c
bounds_same b c h = cc

-- an array that begins has at most as many elements as there are nodes behind it
pub elements_fit : (m : ℕ) (xs : List Node) (b : Bounds) → after (suc m) xs ≡ Some 0 → bounds_in xs ≡ Some b → length_of b + m + 2 ≤ length xs
elements_fit m (ArrayNode left down ∷ Right right ∷ xs) b h e =
    let same : length_of (bounds_from left down right) ≡ length_of b = ap length_of (bounds_same (bounds_from left down right) b e) in
    let fit : length_of (bounds_from left down right) + m ≤ length xs + 0 = wanted_fit (length_of (bounds_from left down right) + m) 0 xs h in
    omega arith
elements_fit m [] b h e = absurd cc
elements_fit m (x ∷ xs) b h e = absurd cc

-- ---- the first items

-- the nodes behind the first items that were read
pub front_rest : (n k left place : ℕ) (ns : List Node) → after n (take place ns) ≡ Some left → after (n + k) ns ≡ Some 0 → after (left + k) (drop place ns) ≡ Some 0
front_rest n k left place ns h whole =
    sym (after_both (n + k) (left + k) (take place ns) (drop place ns) (after_more n left k (take place ns) h))
    ∙ ap (after (n + k)) (take-append-drop place ns) ∙ whole

-- one head more
pub record OneMore (n place m : ℕ) (ns : List Node) : Type 0 where
  pub within : place + width_of (drop place ns) ≤ length ns
  pub front : after n (take (place + width_of (drop place ns)) ns) ≡ Some (m + parts_in (drop place ns))
  pub some : 0 < width_of (drop place ns)

pub front_more : (n k place m : ℕ) (ns : List Node) → place ≤ length ns → after n (take place ns) ≡ Some (suc m) → after (n + k) ns ≡ Some 0 → OneMore n place m ns
front_more n k place m ns within h whole =
    let rest : after (suc (m + k)) (drop place ns) ≡ Some 0 = (let e : suc m + k ≡ suc (m + k) = omega arith in ap (λ i. after i (drop place ns)) (sym e) ∙ front_rest n k (suc m) place ns h whole) in
    let one = head_read (m + k) (drop place ns) rest in
    let long : length (drop place ns) ≡ length ns - place = length-drop place ns in
    record {
      within = (let w : width_of (drop place ns) ≤ length (drop place ns) = one.within in omega arith);
      front = ap (after n) (take-add place (width_of (drop place ns)) ns)
          ∙ after_both n (suc m) (take place ns) (take (width_of (drop place ns)) (drop place ns)) h
          ∙ one.head m ∙ ap Some (omega arith);
      some = one.some;
    }
