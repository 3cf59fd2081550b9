-- What trees come to.
use Rattle.std.proofs.Common.{◌≡◌, ℕ, List, [], ◌∷◌, false, map, refl, sym, ap, subst, ◌∙◌}
use Rattle.std.specs.Prelude.{Option, None, Some, Result, Ok, Err, IfOk}
use Rattle.vd_walks.specs.Trees as trees
use Rattle.vd_bytes.specs.declared.places.Place.{Place}
use Rattle.vd_forest.specs.Forest.{Forest, nothing, more}
use Rattle.vd_resolved.specs.declared.node.Resolved.{Resolved}
use Rattle.vd_meaning.specs.Tables.{Table}
use Rattle.vd_meaning.specs.Kinds
use Rattle.vd_meaning.specs.Meanings.{meanings}
use Rattle.vd_plain_values.specs.declared.environment.Entry.{Entry}
use Rattle.vd_evaluator.specs.declared.senses.Sense.{Sense}
use Rattle.vd_values.specs.declared.scalar.Scalar.{Scalar}
use Rattle.vd_composites.specs.Stops.{OrStop}
use Rattle.vd_composites.specs.Composites.{Value}
use Rattle.vd_evaluator.specs.declared.senses.What.TheVariants as what
use Rattle.vd_evaluator.specs.Evaluated.{IsFound}
use Rattle.vd_evaluator.specs.Outlines.{NotTaken, Outline, outline_of, outlines, is_taken, is_expression}
use Rattle.vd_evaluator.proofs.SenseLemmas.{what_is}
use Rattle.vd_evaluator.specs.Senses.{AreTrees, IsNode, IsTree, IsValueIn, sense_outline, what_outline}

pub each_ok : {A E : Type 0} {P Q : A → Type 0} (r : Result A E) → ((x : A) → P x → Q x) → IfOk r P → IfOk r Q
each_ok (Ok x) f is = f x is
each_ok (Err e) f is = tt

module _ (t : Table) (entries : List Entry) where
  one_tree : (ps trees : List Sense) (made : Sense) (n : Resolved) (text : List ℕ) (place : Place) (parts next : Forest Resolved) → AreTrees t entries ps parts → AreTrees t entries trees next
      → IsNode t entries (Kinds.kind n.form) n text ps made → AreTrees t entries (made ∷ trees) (more n text place parts next)
  one_tree ps trees made n text place parts next inside behind node = record {
    outlines = ap (λ o. o ∷ map sense_outline trees) (node.outline ∙ ap (outline_of (Kinds.kind n.form) t n text) inside.outlines)
        ∙ ap (λ os. outline_of (Kinds.kind n.form) t n text (outlines t parts) ∷ os) behind.outlines;
    senses = λ e holds. (node.sense e holds (meanings t parts) (inside.senses e holds), behind.senses e holds);
  }

  -- ---- all trees of a forest

  abbrev head_outline : List Outline → Outline
  head_outline [] = NotTaken
  head_outline (o ∷ os) = o

  one_more : (f : Forest Resolved) (n : Resolved) (text : List ℕ) (place : Place) (parts : Forest Resolved) (s : Sense) (ss : List Sense)
      → AreTrees t entries (s ∷ []) (more n text place parts nothing) → AreTrees t entries ss f → AreTrees t entries (s ∷ ss) (more n text place parts f)
  one_more f n text place parts s ss one rest = record {
    outlines = ap (λ os. head_outline os ∷ map sense_outline ss) one.outlines ∙ ap (λ os. outline_of (Kinds.kind n.form) t n text (outlines t parts) ∷ os) rest.outlines;
    senses = λ e holds. ((one.senses e holds).0, rest.senses e holds);
  }

  pub are_trees : (f : Forest Resolved) (ss : List Sense) → trees.AreTrees (IsTree t entries) f ss → AreTrees t entries ss f
  are_trees nothing [] are = record { outlines = refl; senses = λ e holds. tt }
  are_trees (more n text place parts next) (s ∷ ss) are = one_more next n text place parts s ss are.0 (are_trees next ss are.1)
  are_trees _ _ are = absurd are

  pub is_tree : (ps : List Sense) (made : Sense) (n : Resolved) (text : List ℕ) (place : Place) (parts next : Forest Resolved) → trees.AreTrees (IsTree t entries) parts ps
      → IsNode t entries (Kinds.kind n.form) n text ps made → IsTree t entries (more n text place parts next) made
  is_tree ps made n text place parts next inside node =
      one_tree ps [] made n text place parts nothing (are_trees parts ps inside) (record { outlines = refl; senses = λ e holds. tt }) node

  -- ---- the first tree

  whole_outline : (ps : List Sense) (made : Sense) (n : Resolved) (text : List ℕ) (place : Place) (parts next : Forest Resolved) → AreTrees t entries ps parts → IsNode t entries (Kinds.kind n.form) n text ps made
      → is_taken t (more n text place parts next) ≡ is_expression (sense_outline made)
  whole_outline ps made n text place parts next inside node = ap is_expression (sym (node.outline ∙ ap (outline_of (Kinds.kind n.form) t n text) inside.outlines))

  pub tree_found : (ps : List Sense) (made : Sense) (f parts next : Forest Resolved) (n : Resolved) (text : List ℕ) (place : Place) (r : OrStop (Value Scalar)) → f ≡ more n text place parts next → AreTrees t entries ps parts
      → IsNode t entries (Kinds.kind n.form) n text ps made → made.what ≡ what.Expression r → IsFound t entries f (Some r)
  tree_found ps made f parts next n text place r is inside node found =
      subst (λ g. IsFound t entries g (Some r)) (sym is) (
        whole_outline ps made n text place parts next inside node ∙ ap (λ w. is_expression (what_outline w)) found,
        λ e holds known. (what_is e made.what r _ found (node.sense e holds (meanings t parts) (inside.senses e holds)).what).value known,
      )

  pub tree_untaken : (ps : List Sense) (made : Sense) (f parts next : Forest Resolved) (n : Resolved) (text : List ℕ) (place : Place) → f ≡ more n text place parts next → AreTrees t entries ps parts
      → IsNode t entries (Kinds.kind n.form) n text ps made → is_expression (sense_outline made) ≡ false → IsFound t entries f None
  tree_untaken ps made f parts next n text place is inside node untaken =
      subst (λ g. IsFound t entries g None) (sym is) (whole_outline ps made n text place parts next inside node ∙ untaken)

  pub tree_answer : {E : Type 0} (ps : List Sense) (made : Sense) (f parts next : Forest Resolved) (n : Resolved) (text : List ℕ) (place : Place) (answer : Result (Option (OrStop (Value Scalar))) E) → f ≡ more n text place parts next
      → AreTrees t entries ps parts → IsNode t entries (Kinds.kind n.form) n text ps made → IfOk answer (λ r. IsValueIn made.what r) → IfOk answer (λ r. IsFound t entries f r)
  tree_answer ps made f parts next n text place (Ok (Some r)) is inside node found = tree_found ps made f parts next n text place r is inside node found
  tree_answer ps made f parts next n text place (Ok None) is inside node untaken = tree_untaken ps made f parts next n text place is inside node untaken
  tree_answer ps made f parts next n text place (Err e) is inside node found = tt
