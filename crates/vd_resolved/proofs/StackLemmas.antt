-- Numbers of trees in a store that grows.
use Rattle.std.proofs.Common.{◌≡◌, ◌<◌, ◌≤◌, ◌+◌, ◌-◌, ℕ, zero, suc, List, [], ◌∷◌, ◌++◌, length, map, take, drop, get_or, refl, sym, ap, ◌∙◌, arith, Result, Ok, Err, OnErr}
use Rattle.std.proofs.lemmas.List.{drop_more, get_or-map, length-map, take-map, map-append}
use Rattle.vd_bytes.specs.declared.places.Place.{Place}
use Rattle.vd_forest.specs.Forest.{Forest, nothing, more, with_next}
use Rattle.vd_forest.specs.Store.{at, Holds, Extends}
use Rattle.vd_resolved.specs.declared.node.Resolved.{Resolved}
use Rattle.vd_resolved.specs.Trees.{side_by_side, with_parent}
use Rattle.vd_resolved.specs.Stacks.{IsTree, AreTrees}

module _ {F : Type 0} where
  tree_more : (old new : List (Forest F)) (k : ℕ) → Extends old new → IsTree old k → IsTree new k
  tree_more old new k grown is = record {
    within = omega (arith, is.within, grown.grows);
    alone = ap (λ f. with_next f nothing) (grown.keeps k is.within) ∙ is.alone ∙ sym (grown.keeps k is.within);
  }

  pub trees_more : (old new : List (Forest F)) (ns : List ℕ) → Extends old new → AreTrees old ns → AreTrees new ns
  trees_more old new [] grown are = tt
  trees_more old new (n ∷ ns) grown are = (tree_more old new n grown are.0, trees_more old new ns grown are.1)

  -- the numbers stand for what they stood for
  pub same_trees : (old new : List (Forest F)) (ns : List ℕ) → Extends old new → AreTrees old ns → map (at new) ns ≡ map (at old) ns
  same_trees old new [] grown are = refl
  same_trees old new (n ∷ ns) grown are =
      ap (λ t. t ∷ map (at new) ns) (grown.keeps n are.0.within) ∙ ap (λ ts. at old n ∷ ts) (same_trees old new ns grown are.1)

  pub tree_at : (store : List (Forest F)) (ns : List ℕ) (i n d : ℕ) → AreTrees store ns → i < length ns → get_or ns i d ≡ n → IsTree store n
  tree_at store [] i n d are within read = absurd (omega (arith, within))
  tree_at store (m ∷ ns) zero n d are within read = rw (sym read) are.0
  tree_at store (m ∷ ns) (suc i) n d are within read = tree_at store ns i n d are.1 (omega (arith, within)) read

  pub trees_taken : (store : List (Forest F)) (from n : ℕ) (ns : List ℕ) → AreTrees store ns → IsTree store n → AreTrees store (take from ns ++ n ∷ [])
  trees_taken store zero n ns are is = (is, tt)
  trees_taken store (suc from) n [] are is = (is, tt)
  trees_taken store (suc from) n (m ∷ ns) are is = (are.0, trees_taken store from n ns are.1 is)

  pub trees_pushed : (store : List (Forest F)) (n : ℕ) (ns : List ℕ) → AreTrees store ns → IsTree store n → AreTrees store (ns ++ n ∷ [])
  trees_pushed store n [] are is = (is, tt)
  trees_pushed store n (m ∷ ns) are is = (are.0, trees_pushed store n ns are.1 is)

-- one tree more in front of those at `made`
pub linked_more : (start store new : List (Forest Resolved)) (ns : List ℕ) (left n made next d : ℕ) → 0 < left → left ≤ length ns
    → AreTrees start ns → Extends start store → Extends store new → get_or ns (left - 1) d ≡ n
    → at store made ≡ side_by_side (drop left (map (at start) ns))
    → Holds new next (with_next (at store n) (at store made))
    → Holds new next (side_by_side (drop (left - 1) (map (at start) ns)))
linked_more start store new ns left n made next d some within are grown more_grown read holds held =
    let lt : left - 1 < length ns = omega arith in
    let lt_map : left - 1 < length (map (at start) ns) = omega (arith, length-map ns (at start)) in
    let is : IsTree start n = tree_at start ns (left - 1) n d are lt read in
    let front : get_or (map (at start) ns) (left - 1) nothing ≡ at start n = get_or-map (at start) ns (left - 1) d nothing lt ∙ ap (at start) read in
    let split : drop (left - 1) (map (at start) ns) ≡ at start n ∷ drop left (map (at start) ns) =
    drop_more (map (at start) ns) (left - 1) nothing lt_map
    ∙ ap (λ t. t ∷ drop (left - 1 + 1) (map (at start) ns)) front
    ∙ ap (λ k. at start n ∷ drop k (map (at start) ns)) (omega arith) in
    record {
      within = held.within;
      is = held.is
          ∙ ap (λ t. with_next t (at store made)) (grown.keeps n is.within)
          ∙ ap (with_next (at start n)) holds
          ∙ ap side_by_side (sym split);
    }

-- behind the last tree there is nothing
pub nothing_left : (start : List (Forest Resolved)) (ns : List ℕ) → Holds start 0 (side_by_side (drop (length ns) (map (at start) ns)))
nothing_left start ns = record { within = omega arith; is = ap side_by_side (sym (none ns)) }
  where
    none : (ns : List ℕ) → drop (length ns) (map (at start) ns) ≡ []
    none [] = refl
    none (n ∷ ns) = none ns

-- ---- one tree more, whose parts stood at the end

pub parent_made : (start new : List (Forest Resolved)) (ns ms : List ℕ) (from tree count : ℕ) (node : Resolved) (text : List ℕ) (place : Place) (inner : Forest Resolved)
    → AreTrees start ns → Extends start new → count ≤ length ns → from ≡ length ns - count → ms ≡ take from ns ++ tree ∷ []
    → at new tree ≡ more node text place inner nothing → inner ≡ side_by_side (drop from (map (at start) ns))
    → map (at new) ms ≡ with_parent (map (at start) ns) node text place count
parent_made start new ns ms from tree count node text place inner are grown some begins made stands parts =
    let number : length (map (at start) ns) - count ≡ from = omega (arith, length-map ns (at start)) in
    ap (map (at new)) made
    ∙ map-append (at new) (take from ns) (tree ∷ [])
    ∙ ap (λ ts. ts ++ at new tree ∷ []) (sym (take-map (at new) from ns) ∙ ap (take from) (same_trees start new ns grown are))
    ∙ ap (λ t. take from (map (at start) ns) ++ t ∷ []) (stands ∙ ap (λ f. more node text place f nothing) parts)
    ∙ ap (λ k. take k (map (at start) ns) ++ more node text place (side_by_side (drop k (map (at start) ns))) nothing ∷ []) (sym number)

pub parent_tree : (new : List (Forest Resolved)) (tree : ℕ) (node : Resolved) (text : List ℕ) (place : Place) (inner : Forest Resolved)
    → Holds new tree (more node text place inner nothing) → IsTree new tree
parent_tree new tree node text place inner held = record {
  within = held.within;
  alone = ap (λ f. with_next f nothing) held.is ∙ sym held.is;
}

-- the numbers after it
pub numbers_made : (start new : List (Forest Resolved)) (ns ms : List ℕ) (from tree : ℕ) → AreTrees start ns → Extends start new → IsTree new tree
    → ms ≡ take from ns ++ tree ∷ [] → AreTrees new ms
numbers_made start new ns ms from tree are grown is made =
    rw made (trees_taken new from tree ns (trees_more start new ns grown are) is)

-- what holds anyway holds on an Err
pub on_err : {T E P : Type 0} (r : Result T E) → P → OnErr r P
on_err (Ok x) p = tt
on_err (Err e) p = p
