-- What is found for lists of identifiers is what they mean. No name has a dash, so that a caller can name each in `#[tactic(auto, using(..))]`.
use Rattle.std.proofs.Common.{◌≡◌, ℕ, List, [], ◌++◌, Option, Some, None, refl, sym, ap, ap₂, ◌∙◌}
use Rattle.std.proofs.lemmas.List.{append-nil}
use Rattle.std.specs.Prelude.{option_to_list}
use Rattle.vd_bytes.specs.declared.places.Place.{Place}
use Rattle.vd_forest.specs.Forest.{Forest, nothing, more}
use Rattle.vd_function_names.specs.Counting.{counted, inside, own_number, number_finder}
use Rattle.vd_function_names.specs.declared.counting.Counted.{Counted}
use Rattle.vd_function_names.specs.declared.counting.Counting.{Counting}
use Rattle.vd_walks.specs.Gathering.{all_found, with_answer}
use Rattle.vd_meaning.specs.Facets.{Meaning, flattened, nth}
use Rattle.vd_meaning.specs.Kinds
use Rattle.vd_meaning.specs.Meanings.{meaning_of, meanings, node_meaning}
use Rattle.vd_meaning.specs.Tables.{Table}
use Rattle.vd_resolved.specs.declared.node.Resolved.{Resolved}
use Rattle.vd_function_names.specs.declared.counting.Counted.TheVariants as trees
use Rattle.vd_function_names.specs.declared.counting.Counting.TheVariants as counting

module _ (t : Table) where
  -- the numbers of a node, from what its parts mean
  abbrev numbers_by : Counting → Resolved → List Meaning → List ℕ
  numbers_by counting.Itself n ms = option_to_list n.declaration
  numbers_by counting.Character n ms = []
  numbers_by counting.AllParts n ms = flattened (λ m. m.numbers) ms
  numbers_by counting.FirstPart n ms = (nth 0 ms).numbers
  numbers_by counting.SecondPart n ms = (nth 1 ms).numbers
  numbers_by counting.Nowhere n ms = []

  numbers_of_kind : (k : Kinds.Kind) (n : Resolved) (text : List ℕ) (ms : List Meaning) → (meaning_of k t n text ms).numbers ≡ numbers_by (counted k) n ms
  numbers_of_kind Kinds.Word n text ms = refl
  numbers_of_kind _ n text ms = refl

  -- and of trees side by side
  abbrev numbers_counted : Counted → List Meaning → List ℕ
  numbers_counted trees.Each ms = flattened (λ m. m.numbers) ms
  numbers_counted trees.FirstAlone ms = (nth 0 ms).numbers
  numbers_counted trees.SecondAlone ms = (nth 1 ms).numbers
  numbers_counted trees.NoTrees ms = []

  answer_in_front : (k : Counting) (n : Resolved) (ms : List Meaning) (rest : List ℕ)
      → with_answer (own_number k n.declaration) (numbers_counted (inside k) ms ++ rest) ≡ numbers_by k n ms ++ rest
  answer_in_front counting.Itself n ms rest = by n.declaration
    where
      by : (number : Option ℕ) → with_answer number ([] ++ rest) ≡ option_to_list number ++ rest
      by None = refl
      by (Some k) = refl
  answer_in_front counting.Character n ms rest = refl
  answer_in_front counting.AllParts n ms rest = refl
  answer_in_front counting.FirstPart n ms rest = refl
  answer_in_front counting.SecondPart n ms rest = refl
  answer_in_front counting.Nowhere n ms rest = refl

  node_in_front : (n : Resolved) (text : List ℕ) (place : Place) (ms : List Meaning) (rest : List ℕ)
      → with_answer (own_number (counted (Kinds.kind n.form)) n.declaration) (numbers_counted (inside (counted (Kinds.kind n.form))) ms ++ rest)
      ≡ (node_meaning t n text place ms).numbers ++ rest
  node_in_front n text place ms rest =
      answer_in_front (counted (Kinds.kind n.form)) n ms rest ∙ ap (λ ns. ns ++ rest) (sym (numbers_of_kind (Kinds.kind n.form) n text ms))

  none_counted : (c : Counted) → [] ≡ numbers_counted c []
  none_counted trees.Each = refl
  none_counted trees.FirstAlone = refl
  none_counted trees.SecondAlone = refl
  none_counted trees.NoTrees = refl

  all_numbers : (c : Counted) (f : Forest Resolved) → all_found number_finder c f ≡ numbers_counted c (meanings t f)
  all_numbers c nothing = none_counted c
  all_numbers trees.Each (more n text place parts next) =
      let k = counted (Kinds.kind n.form) in
      ap₂ (λ xs ys. with_answer (own_number k n.declaration) (xs ++ ys)) (all_numbers (inside k) parts) (all_numbers trees.Each next)
      ∙ node_in_front n text place (meanings t parts) (flattened (λ m. m.numbers) (meanings t next))
  all_numbers trees.FirstAlone (more n text place parts next) =
      let k = counted (Kinds.kind n.form) in
      ap₂ (λ xs ys. with_answer (own_number k n.declaration) (xs ++ ys)) (all_numbers (inside k) parts) (all_numbers trees.NoTrees next)
      ∙ node_in_front n text place (meanings t parts) []
      ∙ append-nil ((node_meaning t n text place (meanings t parts)).numbers)
  all_numbers trees.SecondAlone (more n text place parts next) =
      ap₂ (λ (xs ys : List ℕ). xs ++ ys) (all_numbers trees.NoTrees parts) (all_numbers trees.FirstAlone next)
  all_numbers trees.NoTrees (more n text place parts next) =
      ap₂ (λ (xs ys : List ℕ). xs ++ ys) (all_numbers trees.NoTrees parts) (all_numbers trees.NoTrees next)

pub numbers_of_first : (t : Table) (f : Forest Resolved) → all_found number_finder trees.FirstAlone f ≡ (nth 0 (meanings t f)).numbers
numbers_of_first t f = all_numbers t trees.FirstAlone f
