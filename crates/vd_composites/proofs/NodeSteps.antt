-- The steps of the loop that finds the end of the first items.
use Rattle.std.proofs.Common.{◌≡◌, ◌<◌, ◌≤◌, ℕ, zero, suc, ◌+◌, ◌-◌, List, [], ◌∷◌, length, take, drop, ◌++◌, Some, refl, sym, ap, ◌∙◌, subst, arith}
use Rattle.std.proofs.lemmas.List.{length-drop, take-append-drop}
use Rattle.std.proofs.Math.Seq.{take-length}
use Rattle.vd_composites.specs.declared.nodes.Node.{Node}
use Rattle.vd_composites.specs.Composites.{count, joined, without, first_of, written}
use Rattle.vd_composites.specs.declared.nodes.Node.TheVariants.{Integer, Literal, Time, Array as ArrayNode, Right, Fields as FieldsNode}
use Rattle.vd_composites.specs.Ranges.{length_of}
use Rattle.vd_composites.specs.Nodes.{bounds_from, after, read, width_of, parts_in}
use Rattle.vd_composites.proofs.ItemLemmas.{first_joined, without_joined, without_more}
use Rattle.vd_composites.proofs.NodeLemmas.{front_more, front_rest, wanted_fit, read_both, counted, after_both, after_more}

-- a whole tail of a list, as code takes it
pub tail_of : (place : ℕ) (ns : List Node) → take (length ns - place) (drop place ns) ≡ drop place ns
tail_of place ns = let long : length (drop place ns) ≡ length ns - place = length-drop place ns in
    ap (λ n. take n (drop place ns)) (sym long) ∙ take-length (drop place ns)

pub head_wanted : (n k left place : ℕ) (ns : List Node) → 0 < left → after n (take place ns) ≡ Some left → after (n + k) ns ≡ Some 0 → (m : ℕ) × (after (suc m) (take (length ns - place) (drop place ns)) ≡ Some 0)
head_wanted n k zero place ns some h whole = absurd (omega arith)
head_wanted n k (suc left) place ns some h whole =
    let e : suc left + k ≡ suc (left + k) = omega arith in
    (left + k, ap (after (suc (left + k))) (tail_of place ns) ∙ ap (λ i. after i (drop place ns)) (sym e) ∙ front_rest n k (suc left) place ns h whole)

-- what the head of an item adds
pub record More (n place left width parts : ℕ) (ns : List Node) : Type 0 where
  pub within : place + width ≤ length ns
  pub front : after n (take (place + width) ns) ≡ Some (left - 1 + parts)
  pub some : 0 < width

pub more_here : (n k left place : ℕ) (ns : List Node) (width parts : ℕ) → 0 < left → place ≤ length ns → after n (take place ns) ≡ Some left → after (n + k) ns ≡ Some 0 →
    width ≡ width_of (take (length ns - place) (drop place ns)) → parts ≡ parts_in (take (length ns - place) (drop place ns)) → More n place left width parts ns
more_here n k zero place ns width parts some within h whole w p = absurd (omega arith)
more_here n k (suc left) place ns width parts some within h whole w p =
    let one = front_more n k place left ns within h whole in
    let same_width : width_of (drop place ns) ≡ width = ap width_of (sym (tail_of place ns)) ∙ sym w in
    let same_parts : parts_in (drop place ns) ≡ parts = ap parts_in (sym (tail_of place ns)) ∙ sym p in
    let e : suc left - 1 ≡ left = omega arith in
    record {
      within = subst (λ i. place + i ≤ length ns) same_width one.within;
      front = ap (λ i. after n (take (place + i) ns)) (sym same_width) ∙ one.front ∙ ap (λ i. Some (left + i)) same_parts ∙ ap (λ i. Some (i + parts)) (sym e);
      some = subst (λ i. 0 < i) same_width one.some;
    }

pub left_fits : (n k left place : ℕ) (ns : List Node) (parts : ℕ) → 0 < left → place ≤ length ns → after n (take place ns) ≡ Some left → after (n + k) ns ≡ Some 0 → parts ≡ parts_in (take (length ns - place) (drop place ns)) → left - 1 + parts ≤ length ns
left_fits n k left place ns parts some within h whole p =
    let width = width_of (take (length ns - place) (drop place ns)) in
    let one = more_here n k left place ns width parts some within h whole refl p in
    let rest : after (left - 1 + parts + k) (drop (place + width) ns) ≡ Some 0 = front_rest n k (left - 1 + parts) (place + width) ns one.front whole in
    let fit : left - 1 + parts + k ≤ length (drop (place + width) ns) + 0 = wanted_fit (left - 1 + parts + k) 0 (drop (place + width) ns) rest in
    let long : length (drop (place + width) ns) ≡ length ns - (place + width) = length-drop (place + width) ns in
    omega arith

-- ---- items of a list, from a place on

pub rest_wanted : (place items k start : ℕ) (ns : List Node) → after place (take start ns) ≡ Some 0 → after (place + (items + k)) ns ≡ Some 0 → (j : ℕ) × (after (items + j) (take (length ns - start) (drop start ns)) ≡ Some 0)
rest_wanted place items k start ns h whole =
    let e : 0 + (items + k) ≡ items + k = omega arith in
    (k, ap (after (items + k)) (tail_of start ns) ∙ ap (λ i. after i (drop start ns)) (sym e) ∙ front_rest place (items + k) 0 start ns h whole)

-- the items behind the first ones
pub items_from : (place start : ℕ) (ns : List Node) → after place (take start ns) ≡ Some 0 → without place (read ns) ≡ read (drop start ns)
items_from place start ns h =
    ap (λ xs. without place (read xs)) (sym (take-append-drop start ns))
    ∙ ap (without place) (read_both place (take start ns) (drop start ns) h)
    ∙ subst (λ n. without n (joined (read (take start ns)) (read (drop start ns))) ≡ read (drop start ns)) (counted place (take start ns) h) (without_joined (read (take start ns)) (read (drop start ns)))

pub items_to : (items end : ℕ) (ns : List Node) → after items (take end ns) ≡ Some 0 → first_of items (read ns) ≡ read (take end ns)
items_to items end ns h =
    ap (λ xs. first_of items (read xs)) (sym (take-append-drop end ns))
    ∙ ap (first_of items) (read_both items (take end ns) (drop end ns) h)
    ∙ subst (λ n. first_of n (joined (read (take end ns)) (read (drop end ns))) ≡ read (take end ns)) (counted items (take end ns) h) (first_joined (read (take end ns)) (read (drop end ns)))

pub front_items : (place items k start end : ℕ) (ns : List Node) → after place (take start ns) ≡ Some 0 → after (place + (items + k)) ns ≡ Some 0 →
    after items (take end (take (length ns - start) (drop start ns))) ≡ Some 0 → read (take end (take (length ns - start) (drop start ns))) ≡ first_of items (without place (read ns))
front_items place items k start end ns h whole inside =
    let tail = take (length ns - start) (drop start ns) in
    sym (items_to items end tail inside) ∙ ap (λ xs. first_of items (read xs)) (tail_of start ns) ∙ ap (first_of items) (sym (items_from place start ns h))

-- ---- items with others in their place

pub replaced_read : (place items start end : ℕ) (ns new : List Node) → after place (take start ns) ≡ Some 0 → after items (take end (drop start ns)) ≡ Some 0 → after items new ≡ Some 0 →
    read (take start ns ++ (new ++ drop end (drop start ns))) ≡ written place (read new) (read ns)
replaced_read place items start end ns new h g f =
    let rest = drop end (drop start ns) in
    let many : count (read new) ≡ items = counted items new f in
    read_both place (take start ns) (new ++ rest) h
    ∙ ap (λ us. joined us (read (new ++ rest))) (sym (items_to place start ns h))
    ∙ ap (joined (first_of place (read ns))) (read_both items new rest f)
    ∙ ap (λ us. joined (first_of place (read ns)) (joined (read new) us)) (sym (items_from items end (drop start ns) g) ∙ ap (without items) (sym (items_from place start ns h)) ∙ sym (without_more place items (read ns)))
    ∙ ap (λ m. joined (first_of place (read ns)) (joined (read new) (without (place + m) (read ns)))) (sym many)

pub replaced_whole : (place items k start end : ℕ) (ns new : List Node) → after place (take start ns) ≡ Some 0 → after items (take end (drop start ns)) ≡ Some 0 → after items new ≡ Some 0 → after (place + (items + k)) ns ≡ Some 0 →
    after (place + (items + k)) (take start ns ++ (new ++ drop end (drop start ns))) ≡ Some 0
replaced_whole place items k start end ns new h g f whole =
    let rest = drop end (drop start ns) in
    let e : 0 + (items + k) ≡ items + k = omega arith in
    let o : 0 + k ≡ k = omega arith in
    let middle : after (items + k) (drop start ns) ≡ Some 0 = ap (λ i. after i (drop start ns)) (sym e) ∙ front_rest place (items + k) 0 start ns h whole in
    let last : after k rest ≡ Some 0 = ap (λ i. after i rest) (sym o) ∙ front_rest items k 0 end (drop start ns) g middle in
    after_both (place + (items + k)) (items + k) (take start ns) (new ++ rest) (after_more place 0 (items + k) (take start ns) h ∙ ap Some e)
    ∙ after_both (items + k) k new rest (after_more items 0 k new f ∙ ap Some o)
    ∙ last

-- ---- items that are a node each

pub single_front : (m i : ℕ) (ns : List Node) → after m ns ≡ Some 0 → length ns ≡ m → i ≤ m → after i (take i ns) ≡ Some 0
single_front m zero ns h e l = refl
single_front m (suc i) [] h e l = absurd (omega arith)
single_front zero (suc i) (x ∷ ns) h e l = absurd (omega arith)
single_front (suc m) (suc i) (Integer x ∷ ns) h e l = single_front m i ns h (omega arith) (omega arith)
single_front (suc m) (suc i) (Literal x ∷ ns) h e l = single_front m i ns h (omega arith) (omega arith)
single_front (suc m) (suc i) (Time x ∷ ns) h e l = single_front m i ns h (omega arith) (omega arith)
single_front (suc m) (suc i) (ArrayNode left down ∷ Right right ∷ ns) h e l =
    absurd (let fit : length_of (bounds_from left down right) + m ≤ length ns + 0 = wanted_fit (length_of (bounds_from left down right) + m) 0 ns h in omega arith)
single_front (suc m) (suc i) (FieldsNode n ∷ ns) h e l =
    let fit : n + m ≤ length ns + 0 = wanted_fit (n + m) 0 ns h in
    let z : n + m ≡ m = omega arith in
    let y : n + i ≡ i = omega arith in
    ap (λ k. after k (take i ns)) y ∙ single_front m i ns (ap (λ k. after k ns) (sym z) ∙ h) (omega arith) (omega arith)
single_front (suc m) (suc i) (x ∷ ns) h e l = absurd cc

-- the items in front and all items are counted alike
pub same_wanted : (m n : ℕ) (ns : List Node) → after m ns ≡ Some 0 → after n ns ≡ Some 0 → m ≡ n
same_wanted m n ns h g = sym (counted m ns h) ∙ counted n ns g

pub rest_all : (place items k total start : ℕ) (ns : List Node) → after place (take start ns) ≡ Some 0 → after (place + (items + k)) ns ≡ Some 0 → after total ns ≡ Some 0 →
    after (total - place) (take (length ns - start) (drop start ns)) ≡ Some 0
rest_all place items k total start ns h whole all =
    let same : total ≡ place + (items + k) = same_wanted total (place + (items + k)) ns all whole in
    let e : total - place ≡ 0 + (items + k) = omega arith in
    ap (after (total - place)) (tail_of start ns) ∙ ap (λ i. after i (drop start ns)) e ∙ front_rest place (items + k) 0 start ns h whole
