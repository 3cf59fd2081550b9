-- What trees come to, by their kind and by what their parts come to.
use Rattle.std.proofs.Common.{◌≡◌, ◌∷◌, List, Option, [], subst, sym, ℕ, ap, ◌∙◌}
use Rattle.std.specs.Global.{Global}
use Rattle.std.specs.Prelude.{Err, IfOk, Ok, Result, Vec}
use Rattle.vd_bytes.specs.declared.places.Place.{Place}
use Rattle.vd_forest.specs.Forest.{Forest, more, nothing}
use Rattle.vd_walks.specs.Trees.{AreTrees}
use Rattle.vd_value_rules.specs.declared.forms.IndicatedForm.{IndicatedForm}
use Rattle.vd_meaning.specs.Facets.{Meaning}
use Rattle.vd_meaning.specs.Operators.{operand_kind}
use Rattle.vd_resolved.specs.declared.node.Resolved.{Resolved}
use Rattle.vd_known_lengths.specs.Extents.{AreMeasured, AreTreesMeasured, IsMeasured, IsMeasuredHere, IsTreeMeasured, Sees}
use Rattle.vd_known_lengths.specs.Kinds.{read_kind}
use Rattle.vd_known_lengths.specs.declared.kinds.Kind.{Kind}
use Rattle.vd_known_lengths.specs.declared.over.Over.{Over}
use Rattle.vd_known_lengths.specs.declared.pieces.Measured.{Measured}
use Rattle.vd_value_rules.specs.Designs.{Design}
use Rattle.vd_value_rules.specs.Knowledge.{Known}
use Rattle.vd_value_rules.specs.Lengths.{Shaped, Shaping, joined_length, shaping_of, shapings}

pub joined_as : (result own mark : Option ℕ) (s : Shaped) (l : Option ℕ) → own ≡ mark → joined_length (operand_kind result own) s ≡ l
    → joined_length (operand_kind result mark) s ≡ l
joined_as result own mark s l same is = ap (λ m. joined_length (operand_kind result m) s) (sym same) ∙ is

pub of_kind : (store : List (Forest IndicatedForm)) (d : Design) (k : Known) (n : Resolved) (text : List ℕ) (ms : List Meaning) (ss : List Shaping) (kind one : Kind)
    → kind ≡ one → (y : Measured) → IsMeasured store y (shaping_of (read_kind one) d k n text ms ss) → IsMeasured store y (shaping_of (read_kind kind) d k n text ms ss)
of_kind store d k n text ms ss kind one is y measured = subst (λ x. IsMeasured store y (shaping_of (read_kind x) d k n text ms ss)) (sym is) measured

module _ (x : Over) where
  trees_at : (f : Forest Resolved) (ys : List Measured) (d : Design) (k : Known) → Sees x d k → AreTrees (IsTreeMeasured x) f ys
      → AreMeasured x.ground.subtypes.now ys (shapings d k f)
  trees_at nothing [] d k sees are = tt
  trees_at (more n text place parts next) (y ∷ ys) d k sees are = (are.0 d k sees, trees_at next ys d k sees are.1)
  trees_at _ _ d k sees are = absurd are

  pub each_tree : {E : Type 0} (n : Resolved) (text : List ℕ) (place : Place) (parts next : Forest Resolved) (ys : List Measured) (r : Result Measured E)
      → AreTrees (IsTreeMeasured x) parts ys → IfOk r (IsMeasuredHere x n text parts ys) → IfOk r (IsTreeMeasured x (more n text place parts next))
  each_tree n text place parts next ys (Ok y) are here = λ d k sees. here d k (shapings d k parts) sees (trees_at parts ys d k sees are)
  each_tree n text place parts next ys (Err e) are here = tt

  pub all_trees : {E : Type 0} (f : Forest Resolved) (r : Result (Vec Measured Global) E) → IfOk r (λ made. AreTrees (IsTreeMeasured x) f made.items)
      → IfOk r (λ made. AreTreesMeasured x f made.items)
  all_trees f (Ok made) are = λ d k sees. trees_at f made.items d k sees are
  all_trees f (Err e) are = tt
