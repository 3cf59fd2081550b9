-- The trees that steps stand for, and the steps behind them.
use Rattle.std.proofs.Common.{◌≡◌, ℕ, zero, suc, ◌+◌, ◌-◌, ◌<◌, ◌≤◌, List, [], ◌∷◌, ◌++◌, inl, inr, length, get_or, set, drop, refl, sym, ap, subst, ◌∙◌, add-one, arith, append_assoc, length-set, get_or-set_other, get_or-set_same}
use Rattle.std.proofs.lemmas.Bool.{cases_lt, cases_eq}
use Rattle.std.proofs.lemmas.List.{append-nil}
use Rattle.std.proofs.Math.Seq.{drop-cons}
use Rattle.std.proofs.Math.ListN.{drop_of_length-le}
use Rattle.vd_gram.specs.declared.steps.Step.{Step}
use Rattle.vd_gram.specs.declared.steps.Step.TheVariants.{Leaf, Node}
use Rattle.vd_gram.specs.Derivations.{Trees, nothing, leaf, node, tree_count, joined}
use Rattle.vd_gram.specs.Runs.{steps_of}
use Rattle.vd_gram.specs.Links.{first_trees, other_trees, trees_of, trees_from, IsSpan, IsLinkedFrom, IsLinked}

-- ---- first and other trees

other-nothing : (n : ℕ) → other_trees n nothing ≡ nothing
other-nothing zero = refl
other-nothing (suc n) = refl

first-nothing : (n : ℕ) → first_trees n nothing ≡ nothing
first-nothing zero = refl
first-nothing (suc n) = refl

other-more : (n : ℕ) (f : Trees) → other_trees 1 (other_trees n f) ≡ other_trees (suc n) f
other-more zero nothing = refl
other-more zero (leaf s p n) = refl
other-more zero (node k ps n) = refl
other-more (suc m) nothing = refl
other-more (suc m) (leaf s p n) = other-more m n
other-more (suc m) (node k ps n) = other-more m n

-- no trees stay behind more than there are
other-past : (n m : ℕ) (f : Trees) → other_trees n f ≡ nothing → other_trees (n + m) f ≡ nothing
other-past n zero f e = ap (λ k. other_trees k f) (let z : n + 0 ≡ n = omega arith in z) ∙ e
other-past n (suc m) f e =
    ap (λ k. other_trees k f) (let z : n + suc m ≡ suc (n + m) = omega arith in z) ∙ sym (other-more (n + m) f) ∙ ap (other_trees 1) (other-past n m f e)

first-joined : (a b : Trees) → first_trees (tree_count a) (joined a b) ≡ a
first-joined nothing b = refl
first-joined (leaf s p n) b = ap (λ k. first_trees k (leaf s p (joined n b))) (add-one (tree_count n)) ∙ ap (leaf s p) (first-joined n b)
first-joined (node k ps n) b = ap (λ j. first_trees j (node k ps (joined n b))) (add-one (tree_count n)) ∙ ap (node k ps) (first-joined n b)

other-joined : (a b : Trees) → other_trees (tree_count a) (joined a b) ≡ b
other-joined nothing b = refl
other-joined (leaf s p n) b = ap (λ k. other_trees k (leaf s p (joined n b))) (add-one (tree_count n)) ∙ other-joined n b
other-joined (node k ps n) b = ap (λ j. other_trees j (node k ps (joined n b))) (add-one (tree_count n)) ∙ other-joined n b

joined-nothing : (a : Trees) → joined a nothing ≡ a
joined-nothing nothing = refl
joined-nothing (leaf s p n) = ap (leaf s p) (joined-nothing n)
joined-nothing (node k ps n) = ap (node k ps) (joined-nothing n)

joined-joined : (a b c : Trees) → joined (joined a b) c ≡ joined a (joined b c)
joined-joined nothing b c = refl
joined-joined (leaf s p n) b c = ap (leaf s p) (joined-joined n b c)
joined-joined (node k ps n) b c = ap (node k ps) (joined-joined n b c)

-- steps stand for the trees that they were made of
trees_of-steps : (f : Trees) (more : List Step) → trees_of (steps_of f ++ more) ≡ joined f (trees_of more)
trees_of-steps nothing more = refl
trees_of-steps (leaf s p n) more = ap (leaf s p) (trees_of-steps n more)
trees_of-steps (node k ps n) more =
    let e : trees_of ((steps_of ps ++ steps_of n) ++ more) ≡ joined ps (joined n (trees_of more)) =
    ap trees_of (append_assoc (steps_of ps) (steps_of n) more) ∙ trees_of-steps ps (steps_of n ++ more) ∙ ap (joined ps) (trees_of-steps n more) in
    (λ i. node k (first_trees (tree_count ps) (e i)) (other_trees (tree_count ps) (e i)))
    ∙ (λ i. node k (first-joined ps (joined n (trees_of more)) i) (other-joined ps (joined n (trees_of more)) i))

pub trees_of-steps_of : (f : Trees) → trees_of (steps_of f) ≡ f
trees_of-steps_of f = ap trees_of (sym (append-nil (steps_of f))) ∙ trees_of-steps f [] ∙ joined-nothing f

-- ---- all trees

few : (n : ℕ) (f : Trees) → tree_count f ≤ n → first_trees n f ≡ f
few zero nothing le = refl
few zero (leaf s p n) le = absurd (omega (arith, le))
few zero (node k ps n) le = absurd (omega (arith, le))
few (suc m) nothing le = refl
few (suc m) (leaf s p n) le = ap (leaf s p) (few m n (omega (arith, le)))
few (suc m) (node k ps n) le = ap (node k ps) (few m n (omega (arith, le)))

other-count : (n : ℕ) (f : Trees) → tree_count (other_trees n f) ≤ tree_count f
other-count zero f = omega arith
other-count (suc m) nothing = omega arith
other-count (suc m) (leaf s p n) = omega (arith, other-count m n)
other-count (suc m) (node k ps n) = omega (arith, other-count m n)

count-steps : (steps : List Step) → tree_count (trees_of steps) ≤ length steps
count-steps [] = omega arith
count-steps (Leaf s p ∷ steps) = omega (arith, count-steps steps)
count-steps (Node k n ∷ steps) = omega (arith, count-steps steps, other-count n (trees_of steps))

pub all_trees : (steps : List Step) → first_trees (length steps) (trees_from steps 0) ≡ trees_of steps
all_trees steps = few (length steps) (trees_of steps) (count-steps steps)

-- ---- from a step on

pub from_step : (steps : List Step) (start : ℕ) (step d : Step) → start < length steps → get_or steps start d ≡ step → drop start steps ≡ step ∷ drop (start + 1) steps
from_step steps start step d within is =
    drop-cons steps start d within ∙ ap (λ k. get_or steps start d ∷ drop k steps) (sym (add-one start)) ∙ ap (λ s. s ∷ drop (start + 1) steps) is

from_past : (steps : List Step) (start : ℕ) → length steps ≤ start → trees_from steps start ≡ nothing
from_past steps start past = ap trees_of (drop_of_length-le steps past)

-- ---- spans

pub span_none : (steps : List Step) (start : ℕ) → start ≤ length steps → IsSpan steps start 0 start
span_none steps start within = record { forward = omega arith; within = within; behind = refl }

pub span_more : (steps : List Step) (start n end last : ℕ) → IsSpan steps start n end → IsSpan steps end 1 last → IsSpan steps start (n + 1) last
span_more steps start n end last s next = record {
  forward = omega (arith, s.forward, next.forward);
  within = next.within;
  behind = next.behind ∙ ap (other_trees 1) s.behind ∙ other-more n (trees_from steps start) ∙ ap (λ k. other_trees k (trees_from steps start)) (sym (add-one n));
}

pub span_past : (steps : List Step) (start n count end : ℕ) → IsSpan steps start n end → length steps ≤ end → n ≤ count → IsSpan steps start count end
span_past steps start n count end s past fewer = record {
  forward = s.forward;
  within = s.within;
  behind =
      let none : other_trees n (trees_from steps start) ≡ nothing = sym s.behind ∙ from_past steps end past in
      let sum : n + (count - n) ≡ count = omega (arith, fewer) in
      from_past steps end past ∙ sym (sym (ap (λ k. other_trees k (trees_from steps start)) sum) ∙ other-past n (count - n) (trees_from steps start) none);
}

pub span_linked : (steps : List Step) (from step : ℕ) (ends : List ℕ) → IsLinkedFrom steps from ends → from ≤ step → step < length steps
    → IsSpan steps step 1 (get_or ends step 0)
span_linked steps from step ends l le lt = l.spans step le lt

pub ends_length : (steps : List Step) (from : ℕ) (ends : List ℕ) → IsLinkedFrom steps from ends → length ends ≡ length steps
ends_length steps from ends l = l.lengths

-- a tree of one step, and one of a node with its parts
pub leaf_span : (steps : List Step) (start s p : ℕ) → start < length steps → drop start steps ≡ Leaf s p ∷ drop (start + 1) steps → IsSpan steps start 1 (start + 1)
leaf_span steps start s p within is = record { forward = omega arith; within = omega (arith, within); behind = sym (ap (λ l. other_trees 1 (trees_of l)) is) }

pub node_span : (steps : List Step) (start k n end : ℕ) → start < length steps → drop start steps ≡ Node k n ∷ drop (start + 1) steps
    → IsSpan steps (start + 1) n end → IsSpan steps start 1 end
node_span steps start k n end within is parts = record {
  forward = omega (arith, parts.forward);
  within = parts.within;
  behind = parts.behind ∙ sym (ap (λ l. other_trees 1 (trees_of l)) is);
}

-- ---- links

pub linked_none : (steps : List Step) (ends : List ℕ) → length ends ≡ length steps → IsLinkedFrom steps (length steps) ends
linked_none steps ends lengths = record { lengths = lengths; spans = λ step le lt. absurd (omega (arith, le, lt)) }

farther : (start step : ℕ) → start ≤ step → (step ≡ start → ⊥) → start + 1 ≤ step
farther start step le other = elim (cases_lt start step) [ inl lt ↦ omega (arith, lt) | inr ge ↦ absurd (other (omega (arith, le, ge))) ]

pub linked_more : (steps : List Step) (start end : ℕ) (ends : List ℕ) → IsLinkedFrom steps (start + 1) ends → start < length steps → IsSpan steps start 1 end
    → IsLinkedFrom steps start (set ends start end)
linked_more steps start end ends l within span = record {
  lengths = length-set ends start end ∙ l.lengths;
  spans = λ step le lt.
      let inside : start < length ends = omega (arith, within, l.lengths) in
      elim (cases_eq step start) [
        | inl same ↦ subst (λ k. IsSpan steps step 1 k) (sym (ap (λ k. get_or (set ends start end) k 0) same ∙ get_or-set_same ends start end 0 inside)) (subst (λ k. IsSpan steps k 1 end) (sym same) span)
        | inr other ↦ subst (λ k. IsSpan steps step 1 k) (sym (get_or-set_other ends start step end 0 other)) (l.spans step (farther start step le other) lt)
      ];
}

-- ---- opening

module _ (steps : List Step) (ends : List ℕ) (start count : ℕ) where
  pub open_none : count ≡ 0 → first_trees count (trees_from steps start) ≡ nothing
  open_none z = ap (λ n. first_trees n (trees_from steps start)) z

  pub open_past : length steps ≤ start → first_trees count (trees_from steps start) ≡ nothing
  open_past past = ap (first_trees count) (from_past steps start past) ∙ first-nothing count

  next_from : IsLinked steps ends → start < length steps → trees_from steps (get_or ends start 0) ≡ other_trees 1 (trees_from steps start)
  next_from l within = (l.spans start (omega arith) within).behind

  counted : (count ≡ 0 → ⊥) → count ≡ suc (count - 1)
  counted some = omega (arith, some)

  pub open_leaf : (s p : ℕ) → (count ≡ 0 → ⊥) → start < length steps → IsLinked steps ends → drop start steps ≡ Leaf s p ∷ drop (start + 1) steps
      → first_trees count (trees_from steps start) ≡ leaf s p (first_trees (count - 1) (trees_from steps (get_or ends start 0)))
  open_leaf s p some within l is =
      let f : trees_from steps start ≡ leaf s p (trees_from steps (start + 1)) = ap trees_of is in
      let next : trees_from steps (get_or ends start 0) ≡ trees_from steps (start + 1) = next_from l within ∙ ap (other_trees 1) f in
      ap (λ n. first_trees n (trees_from steps start)) (counted some) ∙ ap (first_trees (suc (count - 1))) f
      ∙ ap (λ g. leaf s p (first_trees (count - 1) g)) (sym next)

  pub open_node : (k n : ℕ) → (count ≡ 0 → ⊥) → start < length steps → IsLinked steps ends → drop start steps ≡ Node k n ∷ drop (start + 1) steps
      → first_trees count (trees_from steps start) ≡ node k (first_trees n (trees_from steps (start + 1))) (first_trees (count - 1) (trees_from steps (get_or ends start 0)))
  open_node k n some within l is =
      let f : trees_from steps start ≡ node k (first_trees n (trees_from steps (start + 1))) (other_trees n (trees_from steps (start + 1))) = ap trees_of is in
      let next : trees_from steps (get_or ends start 0) ≡ other_trees n (trees_from steps (start + 1)) = next_from l within ∙ ap (other_trees 1) f in
      ap (λ m. first_trees m (trees_from steps start)) (counted some) ∙ ap (first_trees (suc (count - 1))) f
      ∙ ap (λ g. node k (first_trees n (trees_from steps (start + 1))) (first_trees (count - 1) g)) (sym next)

pub ruleset spans = (span_none, span_more, span_past, span_linked, ends_length)

pub ruleset tree_spans = (leaf_span, node_span, from_step)

pub ruleset links = (linked_none, linked_more)

pub ruleset openings = (open_none, open_past)
