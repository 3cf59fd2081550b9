-- What is found for lists of identifiers is what they mean. No name has a dash, so that a caller can name each in `#[tactic(auto, using(..))]`.
use Rattle.std.proofs.Common.{◌≡◌, List, [], ap, ap₂, refl, sym, ℕ, ◌++◌, ◌∙◌, ◌∷◌}
use Rattle.std.proofs.lemmas.List.{append-nil}
use Rattle.vd_body_rules.specs.Words.{character, own_text, text_finder}
use Rattle.vd_bytes.specs.declared.places.Place.{Place}
use Rattle.vd_forest.specs.Forest.{Forest, more, nothing}
use Rattle.vd_function_names.specs.Counting.{counted, inside}
use Rattle.vd_function_names.specs.declared.counting.Counted.{Counted}
use Rattle.vd_function_names.specs.declared.counting.Counting.{Counting}
use Rattle.vd_walks.specs.Gathering.{all_found, with_answer}
use Rattle.vd_meaning.specs.Facets.{Meaning, flattened, nth}
use Rattle.vd_meaning.specs.Kinds
use Rattle.vd_meaning.specs.Meanings.{meaning_of, meanings, node_meaning}
use Rattle.vd_meaning.specs.Tables.{Table}
use Rattle.vd_resolved.specs.declared.node.Resolved.{Resolved}
use Rattle.vd_function_names.specs.declared.counting.Counted.TheVariants as trees
use Rattle.vd_function_names.specs.declared.counting.Counting.TheVariants as counting

module _ (t : Table) where
  -- the texts of a node, from what its parts mean
  abbrev texts_by : Counting → List ℕ → List Meaning → List (List ℕ)
  texts_by counting.Itself text ms = text ∷ []
  texts_by counting.Character text ms = character text ∷ []
  texts_by counting.AllParts text ms = flattened (λ m. m.texts) ms
  texts_by counting.FirstPart text ms = (nth 0 ms).texts
  texts_by counting.SecondPart text ms = (nth 1 ms).texts
  texts_by counting.Nowhere text ms = []

  texts_of_kind : (k : Kinds.Kind) (n : Resolved) (text : List ℕ) (ms : List Meaning) → (meaning_of k t n text ms).texts ≡ texts_by (counted k) text ms
  texts_of_kind Kinds.Word n text ms = refl
  texts_of_kind _ n text ms = refl

  -- and of trees side by side
  abbrev texts_counted : Counted → List Meaning → List (List ℕ)
  texts_counted trees.Each ms = flattened (λ m. m.texts) ms
  texts_counted trees.FirstAlone ms = (nth 0 ms).texts
  texts_counted trees.SecondAlone ms = (nth 1 ms).texts
  texts_counted trees.NoTrees ms = []

  answer_in_front : (k : Counting) (text : List ℕ) (ms : List Meaning) (rest : List (List ℕ))
      → with_answer (own_text k text) (texts_counted (inside k) ms ++ rest) ≡ texts_by k text ms ++ rest
  answer_in_front counting.Itself text ms rest = refl
  answer_in_front counting.Character text ms rest = refl
  answer_in_front counting.AllParts text ms rest = refl
  answer_in_front counting.FirstPart text ms rest = refl
  answer_in_front counting.SecondPart text ms rest = refl
  answer_in_front counting.Nowhere text ms rest = refl

  node_in_front : (n : Resolved) (text : List ℕ) (place : Place) (ms : List Meaning) (rest : List (List ℕ))
      → with_answer (own_text (counted (Kinds.kind n.form)) text) (texts_counted (inside (counted (Kinds.kind n.form))) ms ++ rest)
      ≡ (node_meaning t n text place ms).texts ++ rest
  node_in_front n text place ms rest =
      answer_in_front (counted (Kinds.kind n.form)) text ms rest ∙ ap (λ ns. ns ++ rest) (sym (texts_of_kind (Kinds.kind n.form) n text ms))

  none_counted : (c : Counted) → [] ≡ texts_counted c []
  none_counted trees.Each = refl
  none_counted trees.FirstAlone = refl
  none_counted trees.SecondAlone = refl
  none_counted trees.NoTrees = refl

  all_texts : (c : Counted) (f : Forest Resolved) → all_found text_finder c f ≡ texts_counted c (meanings t f)
  all_texts c nothing = none_counted c
  all_texts trees.Each (more n text place parts next) =
      let k = counted (Kinds.kind n.form) in
      ap₂ (λ xs ys. with_answer (own_text k text) (xs ++ ys)) (all_texts (inside k) parts) (all_texts trees.Each next)
      ∙ node_in_front n text place (meanings t parts) (flattened (λ m. m.texts) (meanings t next))
  all_texts trees.FirstAlone (more n text place parts next) =
      let k = counted (Kinds.kind n.form) in
      ap₂ (λ xs ys. with_answer (own_text k text) (xs ++ ys)) (all_texts (inside k) parts) (all_texts trees.NoTrees next)
      ∙ node_in_front n text place (meanings t parts) []
      ∙ append-nil ((node_meaning t n text place (meanings t parts)).texts)
  all_texts trees.SecondAlone (more n text place parts next) =
      ap₂ (λ (xs ys : List (List ℕ)). xs ++ ys) (all_texts trees.NoTrees parts) (all_texts trees.FirstAlone next)
  all_texts trees.NoTrees (more n text place parts next) =
      ap₂ (λ (xs ys : List (List ℕ)). xs ++ ys) (all_texts trees.NoTrees parts) (all_texts trees.NoTrees next)

pub texts_of_first : (t : Table) (f : Forest Resolved) → all_found text_finder trees.FirstAlone f ≡ (nth 0 (meanings t f)).texts
texts_of_first t f = all_texts t trees.FirstAlone f
