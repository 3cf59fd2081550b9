-- Nodes and the subtypes that they make.
use Rattle.std.proofs.Common.{◌≡◌, ◌≤◌, ℕ, zero, suc, ◌+◌, List, [], ◌∷◌, ◌++◌, length, Option, Some, None, refl, sym, ap, ◌∙◌, arith, length-append}
use Rattle.vd_composites.specs.declared.ranges.Bounds.{Bounds}
use Rattle.vd_composites.specs.declared.scalars.ScalarSubtype.{ScalarSubtype}
use Rattle.vd_composites.specs.Subtypes.{Subtype, Scalars, Arrays, Records, Subtypes, no_more, and_more, number_of, constrained}
use Rattle.std.proofs.Common.{true, drop, take, ◌-◌, length-drop, take_all}
use Rattle.std.specs.Prelude.{Ok, Err, if◌then◌else◌}
use Rattle.vd_values.specs.declared.scalar.StopKind.TheVariants.{Range, Index}
use Rattle.vd_composites.specs.Ranges.{lies_within}
use Rattle.vd_subtypes.specs.declared.heads.SubtypeHead.{SubtypeHead}
use Rattle.vd_subtypes.specs.declared.subtypes.Node.{Node}
use Rattle.vd_subtypes.specs.declared.subtypes.Node.TheVariants.{Scalar as ScalarNode, Unbounded as UnboundedNode, Bounded as BoundedNode, Record as RecordNode}
use Rattle.vd_subtypes.specs.declared.heads.SubtypeHead.TheVariants.{Scalar as ScalarHead, Unbounded, Bounded, Record as RecordHead}
use Rattle.vd_subtypes.specs.Heads.{head_of}
use Rattle.vd_subtypes.specs.Nodes.{first_fields, without_fields, array_in_front, record_in_front, read, after, subtype_in, head_in, subtypes_of, IsNodesOf}

some_same : (m n : ℕ) → Some m ≡ Some n → m ≡ n
some_same m n h = cc

number_without : (n m : ℕ) (ss : Subtypes) → number_of ss ≡ n + m → number_of (without_fields n ss) ≡ m
number_without zero m ss h = h ∙ omega arith
number_without (suc n) m no_more h = absurd (omega arith)
number_without (suc n) m (and_more s ss) h = number_without n m ss (omega arith)

number_first : (n m : ℕ) (ss : Subtypes) → number_of ss ≡ n + m → number_of (first_fields n ss) ≡ n
number_first zero m ss h = refl
number_first (suc n) m no_more h = absurd (omega arith)
number_first (suc n) m (and_more s ss) h = ap suc (number_first n m ss (omega arith))

number_array : (index : ScalarSubtype) (b : Option Bounds) (m : ℕ) (ss : Subtypes) → number_of ss ≡ suc m → number_of (array_in_front index b ss) ≡ suc m
number_array index b m no_more h = absurd (omega arith)
number_array index b m (and_more s ss) h = h

-- as many subtypes as were wanted
pub counted : (m : ℕ) (ns : List Node) → after m ns ≡ Some 0 → number_of (read ns) ≡ m
counted m [] h = sym (some_same m 0 h)
counted zero (x ∷ ns) h = absurd cc
counted (suc m) (ScalarNode s ∷ ns) h = ap suc (counted m ns h)
counted (suc m) (UnboundedNode index ∷ ns) h = number_array index None m (read ns) (counted (suc m) ns h)
counted (suc m) (BoundedNode index b ∷ ns) h = number_array index (Some b) m (read ns) (counted (suc m) ns h)
counted (suc m) (RecordNode n ∷ ns) h = ap suc (number_without n m (read ns) (counted (n + m) ns h))

-- the array of the one subtype that some nodes make
one_array : (index : ScalarSubtype) (b : Option Bounds) (ss : Subtypes) → number_of ss ≡ 1 → subtype_in (array_in_front index b ss) ≡ Arrays index b (subtype_in ss)
one_array index b no_more h = absurd (omega arith)
one_array index b (and_more s ss) h = refl

pub made_unbounded : (index : ScalarSubtype) (ns made : List Node) (s : Subtype) → after 1 ns ≡ Some 0 → subtype_in (read ns) ≡ s → made ≡ UnboundedNode index ∷ ns →
    (after 1 made ≡ Some 0) × (subtype_in (read made) ≡ Arrays index None s)
made_unbounded index ns made s h e m = (ap (after 1) m ∙ h, ap (λ xs. subtype_in (read xs)) m ∙ one_array index None (read ns) (counted 1 ns h) ∙ ap (Arrays index None) e)

pub made_bounded : (index : ScalarSubtype) (b : Bounds) (ns made : List Node) (s : Subtype) → after 1 ns ≡ Some 0 → subtype_in (read ns) ≡ s → made ≡ BoundedNode index b ∷ ns →
    (after 1 made ≡ Some 0) × (subtype_in (read made) ≡ Arrays index (Some b) s)
made_bounded index b ns made s h e m = (ap (after 1) m ∙ h, ap (λ xs. subtype_in (read xs)) m ∙ one_array index (Some b) (read ns) (counted 1 ns h) ∙ ap (Arrays index (Some b)) e)

-- ---- heads

pub head_known : (ns : List Node) → after 1 ns ≡ Some 0 → head_in ns ≡ head_of (subtype_in (read ns))
head_known [] h = absurd (let z : 1 ≡ 0 = some_same 1 0 h in omega arith)
head_known (ScalarNode s ∷ ns) h = refl
head_known (UnboundedNode index ∷ ns) h = sym (ap head_of (one_array index None (read ns) (counted 1 ns h)))
head_known (BoundedNode index b ∷ ns) h = sym (ap head_of (one_array index (Some b) (read ns) (counted 1 ns h)))
head_known (RecordNode n ∷ ns) h = sym (ap RecordHead (number_first n 0 (read ns) (counted (n + 0) ns h)))

-- ---- subtypes one after another

pub joined : Subtypes → Subtypes → Subtypes
joined no_more ts = ts
joined (and_more s ss) ts = and_more s (joined ss ts)

pub after_both : (m k : ℕ) (xs ys : List Node) → after m xs ≡ Some k → after m (xs ++ ys) ≡ after k ys
after_both m k [] ys h = ap (λ n. after n ys) (some_same m k h)
after_both zero k (x ∷ xs) ys h = absurd cc
after_both (suc m) k (ScalarNode s ∷ xs) ys h = after_both m k xs ys h
after_both (suc m) k (UnboundedNode index ∷ xs) ys h = after_both (suc m) k xs ys h
after_both (suc m) k (BoundedNode index b ∷ xs) ys h = after_both (suc m) k xs ys h
after_both (suc m) k (RecordNode n ∷ xs) ys h = after_both (n + m) k xs ys h

pub after_more : (m k j : ℕ) (xs : List Node) → after m xs ≡ Some k → after (m + j) xs ≡ Some (k + j)
after_more m k j [] h = ap (λ n. Some (n + j)) (some_same m k h)
after_more zero k j (x ∷ xs) h = absurd cc
after_more (suc m) k j (ScalarNode s ∷ xs) h = let e : suc m + j ≡ suc (m + j) = omega arith in ap (λ n. after n (ScalarNode s ∷ xs)) e ∙ after_more m k j xs h
after_more (suc m) k j (UnboundedNode index ∷ xs) h =
    let e : suc m + j ≡ suc (m + j) = omega arith in
    ap (λ n. after n (UnboundedNode index ∷ xs)) e ∙ ap (λ n. after n xs) (sym e) ∙ after_more (suc m) k j xs h
after_more (suc m) k j (BoundedNode index b ∷ xs) h =
    let e : suc m + j ≡ suc (m + j) = omega arith in
    ap (λ n. after n (BoundedNode index b ∷ xs)) e ∙ ap (λ n. after n xs) (sym e) ∙ after_more (suc m) k j xs h
after_more (suc m) k j (RecordNode n ∷ xs) h =
    let e : suc m + j ≡ suc (m + j) = omega arith in
    let f : n + (m + j) ≡ n + m + j = omega arith in
    ap (λ i. after i (RecordNode n ∷ xs)) e ∙ ap (λ i. after i xs) f ∙ after_more (n + m) k j xs h

first_joined_fields : (n : ℕ) (ss ts : Subtypes) → n ≤ number_of ss → first_fields n (joined ss ts) ≡ first_fields n ss
unfolding joined
first_joined_fields zero ss ts h = refl
first_joined_fields (suc n) no_more ts h = absurd (omega arith)
first_joined_fields (suc n) (and_more s ss) ts h = ap (and_more s) (first_joined_fields n ss ts (omega arith))

without_joined_fields : (n : ℕ) (ss ts : Subtypes) → n ≤ number_of ss → without_fields n (joined ss ts) ≡ joined (without_fields n ss) ts
unfolding joined
without_joined_fields zero ss ts h = refl
without_joined_fields (suc n) no_more ts h = absurd (omega arith)
without_joined_fields (suc n) (and_more s ss) ts h = without_joined_fields n ss ts (omega arith)

array_joined : (index : ScalarSubtype) (b : Option Bounds) (m : ℕ) (ss ts : Subtypes) → number_of ss ≡ suc m → array_in_front index b (joined ss ts) ≡ joined (array_in_front index b ss) ts
unfolding joined
array_joined index b m no_more ts h = absurd (omega arith)
array_joined index b m (and_more s ss) ts h = refl

record_joined : (n m : ℕ) (ss ts : Subtypes) → number_of ss ≡ n + m → record_in_front n (joined ss ts) ≡ joined (record_in_front n ss) ts
unfolding joined
record_joined n m ss ts h = λ i. and_more (Records (first_joined_fields n ss ts (omega arith) i)) (without_joined_fields n ss ts (omega arith) i)

pub read_both : (m : ℕ) (xs ys : List Node) → after m xs ≡ Some 0 → read (xs ++ ys) ≡ joined (read xs) (read ys)
unfolding joined
read_both m [] ys h = refl
read_both zero (x ∷ xs) ys h = absurd cc
read_both (suc m) (ScalarNode s ∷ xs) ys h = ap (and_more (Scalars s)) (read_both m xs ys h)
read_both (suc m) (UnboundedNode index ∷ xs) ys h = ap (array_in_front index None) (read_both (suc m) xs ys h) ∙ array_joined index None m (read xs) (read ys) (counted (suc m) xs h)
read_both (suc m) (BoundedNode index b ∷ xs) ys h = ap (array_in_front index (Some b)) (read_both (suc m) xs ys h) ∙ array_joined index (Some b) m (read xs) (read ys) (counted (suc m) xs h)
read_both (suc m) (RecordNode n ∷ xs) ys h = ap (record_in_front n) (read_both (n + m) xs ys h) ∙ record_joined n m (read xs) (read ys) (counted (n + m) xs h)

one_subtype : (ss : Subtypes) (s : Subtype) → number_of ss ≡ 1 → subtype_in ss ≡ s → ss ≡ and_more s no_more
one_subtype no_more s h e = absurd (omega arith)
one_subtype (and_more t no_more) s h e = ap (λ u. and_more u no_more) e
one_subtype (and_more t (and_more u ss)) s h e = absurd (omega arith)

joined_listed : (ss : List Subtype) (s : Subtype) → joined (subtypes_of ss) (and_more s no_more) ≡ subtypes_of (ss ++ s ∷ [])
unfolding joined
joined_listed [] s = refl
joined_listed (t ∷ ss) s = ap (and_more t) (joined_listed ss s)

pub one_more : (ss : List Subtype) (s : Subtype) (xs ys : List Node) → IsNodesOf ss xs → after 1 ys ≡ Some 0 → subtype_in (read ys) ≡ s → IsNodesOf (ss ++ s ∷ []) (xs ++ ys)
one_more ss s xs ys have whole is =
    let n : ℕ = length ss in
    let long : length (ss ++ s ∷ []) ≡ n + 1 = length-append ss (s ∷ []) ∙ omega arith in
    let o : 0 + 1 ≡ 1 = omega arith in (
      ap (λ k. after k (xs ++ ys)) long ∙ after_both (n + 1) (0 + 1) xs ys (after_more n 0 1 xs have.0) ∙ ap (λ k. after k ys) o ∙ whole,
      read_both n xs ys have.0 ∙ ap (λ t. joined t (read ys)) have.1 ∙ ap (joined (subtypes_of ss)) (one_subtype (read ys) s (counted 1 ys whole) is) ∙ joined_listed ss s,
    )

first_all_fields : (ss : List Subtype) → first_fields (length ss) (subtypes_of ss) ≡ subtypes_of ss
first_all_fields [] = refl
first_all_fields (s ∷ ss) = ap (and_more s) (first_all_fields ss)

pub made_record : (ss : List Subtype) (n : ℕ) (ns made : List Node) → n ≡ length ss → IsNodesOf ss ns → made ≡ RecordNode n ∷ ns → (after 1 made ≡ Some 0) × (subtype_in (read made) ≡ Records (subtypes_of ss))
made_record ss n ns made e have m =
    let o : n + 0 ≡ length ss = omega arith in (
      ap (after 1) m ∙ ap (λ k. after k ns) o ∙ have.0,
      ap (λ xs. subtype_in (read xs)) m ∙ (λ i. Records (first_fields (e i) (have.1 i))) ∙ ap Records (first_all_fields ss),
    )

-- ---- constraints

pub array_constrained : (index : ScalarSubtype) (b : Bounds) (ns made : List Node) → after 1 ns ≡ Some 0 → lies_within index.range b ≡ true → made ≡ BoundedNode index b ∷ ns →
    (after 1 made ≡ Some 0) × (constrained (Arrays index None (subtype_in (read ns))) b ≡ Ok (subtype_in (read made)))
array_constrained index b ns made h t m =
    let two = made_bounded index b ns made (subtype_in (read ns)) h refl m in
    let e = subtype_in (read ns) in
    (two.0, ap (λ c. if c then Ok (Arrays index (Some b) e) else Err Index) t ∙ (λ i. Ok (sym two.1 i)))

pub record IsArray (index : ScalarSubtype) (ns : List Node) : Type 0 where
  pub some : 1 ≤ length ns
  pub whole : after 1 (drop 1 ns) ≡ Some 0
  pub is : subtype_in (read ns) ≡ Arrays index None (subtype_in (read (drop 1 ns)))

pub unbounded_is : (index : ScalarSubtype) (ns : List Node) → after 1 ns ≡ Some 0 → head_in ns ≡ Unbounded index → IsArray index ns
unbounded_is index [] h e = absurd cc
unbounded_is index (ScalarNode s ∷ ns) h e = absurd cc
unbounded_is index (BoundedNode i b ∷ ns) h e = absurd cc
unbounded_is index (RecordNode n ∷ ns) h e = absurd cc
unbounded_is index (UnboundedNode i ∷ ns) h e =
    let same : i ≡ index = cc in
    record { some = omega arith; whole = h; is = one_array i None (read ns) (counted 1 ns h) ∙ ap (λ j. Arrays j None (subtype_in (read ns))) same }

pub scalar_is : (s : ScalarSubtype) (ns : List Node) → head_in ns ≡ ScalarHead s → subtype_in (read ns) ≡ Scalars s
scalar_is s [] e = absurd cc
scalar_is s (UnboundedNode i ∷ ns) e = absurd cc
scalar_is s (BoundedNode i b ∷ ns) e = absurd cc
scalar_is s (RecordNode n ∷ ns) e = absurd cc
scalar_is s (ScalarNode t ∷ ns) e = let same : t ≡ s = cc in ap Scalars same

-- other subtypes take no constraint
pub IsOther : SubtypeHead → Type 0
IsOther (ScalarHead s) = ⊥
IsOther (Unbounded i) = ⊥
IsOther (Bounded b) = Unit {0}
IsOther (RecordHead n) = Unit {0}

pub other_constrained : (s : Subtype) (b : Bounds) → IsOther (head_of s) → constrained s b ≡ Err Range
unfolding IsOther
other_constrained (Scalars s) b h = absurd h
other_constrained (Arrays i None e) b h = absurd h
other_constrained (Arrays i (Some c) e) b h = refl
other_constrained (Records fields) b h = refl

pub other_bounded : (b : Bounds) → IsOther (Bounded b)
unfolding IsOther
other_bounded b = tt

pub other_record : (n : ℕ) → IsOther (RecordHead n)
unfolding IsOther
other_record n = tt

-- a whole tail of a list, as code takes it
pub tail_of : (place : ℕ) (ns : List Node) → take (length ns - place) (drop place ns) ≡ drop place ns
tail_of place ns = let long : length (drop place ns) ≡ length ns - place = length-drop place ns in ap (λ n. take n (drop place ns)) (sym long) ∙ take_all (length (drop place ns)) (drop place ns) (omega arith)
