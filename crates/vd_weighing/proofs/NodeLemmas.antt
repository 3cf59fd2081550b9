-- Nodes that are counted, one after the other.
use Rattle.std.proofs.Common.{◌≡◌, ℕ, ◌+◌, ◌*◌, ◌<◌, List, [], ◌∷◌, ◌++◌, Bool, true, false, if◌then◌else◌, refl, sym, ap, ◌∙◌, arith}
use Rattle.std.specs.List.{sum_by}
use Rattle.std.proofs.lemmas.List.Sums.{sum_by-append, sum_by-cons}
use Rattle.vd_bytes.specs.declared.places.Place.{Place}
use Rattle.vd_forest.specs.Forest.{Forest, more, size}
use Rattle.vd_forms.specs.declared.form.Form.{Form}
use Rattle.vd_forms.specs.Forms.{is_weighed}
use Rattle.vd_resolved.specs.declared.node.Resolved.{Resolved}
use Rattle.vd_weighing.specs.Weights.{own_weight, nodes}
use Rattle.vd_weighing.specs.Limits.{at_most}
use Rattle.vd_weighing.proofs.LimitLemmas.{at_most_small, IsCounted, counted_more}

pub own_is_small : (f : Form) → own_weight f ≡ at_most (own_weight f)
own_is_small f = by (is_weighed f)
  where
    by : (b : Bool) → (if b then 1 else 0) ≡ at_most (if b then 1 else 0)
    by true = sym (at_most_small 1 (omega arith))
    by false = sym (at_most_small 0 (omega arith))

-- the steps for a forest
abbrev pub node_steps : Forest Resolved → ℕ
node_steps f = 2 * size f + 1

pub sum_by_push : {X : Type 0} (g : X → ℕ) (us ls : List X) (x : X) → us ≡ ls ++ x ∷ [] → sum_by g us ≡ sum_by g ls + g x
sum_by_push g us ls x pushed =
    ap (sum_by g) pushed ∙ sum_by-append g ls (x ∷ []) ∙ ap (λ n. sum_by g ls + n) (sum_by-cons g x [] ∙ omega arith)

module _ (us ls vs : List (Forest Resolved)) (f parts next : Forest Resolved) (node : Resolved) (text : List ℕ) (place : Place) where
  -- a node is counted, and its parts and the trees after it are left
  pub nodes_more : (count want made new : ℕ) → us ≡ ls ++ f ∷ [] → f ≡ more node text place parts next → vs ≡ (ls ++ next ∷ []) ++ parts ∷ []
      → made ≡ own_weight node.form → new ≡ at_most (count + made) → IsCounted count (sum_by nodes us) want
      → IsCounted new (sum_by nodes vs) want
  nodes_more count want made new is opened pushed made_is new_is before =
      let one = sum_by_push nodes us ls f is in
      let two = sum_by_push nodes vs (ls ++ next ∷ []) parts pushed in
      let three = sum_by_push nodes (ls ++ next ∷ []) ls next refl in
      let here : nodes f ≡ own_weight node.form + nodes parts + nodes next = ap nodes opened in
      counted_more count (own_weight node.form) (sum_by nodes vs) (sum_by nodes us) want made new before
      (omega (arith, one, two, three, here)) (made_is ∙ own_is_small node.form) new_is

  pub nodes_less : us ≡ ls ++ f ∷ [] → f ≡ more node text place parts next → vs ≡ (ls ++ next ∷ []) ++ parts ∷ []
      → sum_by node_steps vs < sum_by node_steps us
  nodes_less is opened pushed =
      let one = sum_by_push node_steps us ls f is in
      let two = sum_by_push node_steps vs (ls ++ next ∷ []) parts pushed in
      let three = sum_by_push node_steps (ls ++ next ∷ []) ls next refl in
      omega (arith, one, two, three, ap size opened)
