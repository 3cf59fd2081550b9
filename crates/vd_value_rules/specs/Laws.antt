-- What the definitions that compute say in terms of values. (IEEE 1076, case statement.)
use Rattle.std.specs.Prelude.{◌≡◌, ℕ, ℤ, true, Bool, List, length}
use Rattle.std.specs.List.{list_any, list_all}
use Rattle.std.specs.Ordering.{int_eq}
use Rattle.vd_composites.specs.declared.ranges.Bounds.{Bounds}
use Rattle.vd_composites.specs.Ranges.{is_within}
use Rattle.vd_value_rules.specs.Choices.{is_given, are_covered, same_text, are_texts_covered}

-- choices cover a range exactly where they give each of its values
pub record CoveringIsGiving : Type 0 where
  pub given : (within : Bounds) (choices : List Bounds) (i : ℤ) → are_covered within choices ≡ true → is_within within i ≡ true → is_given choices i ≡ true
  pub covered : (within : Bounds) (choices : List Bounds) → ((i : ℤ) → is_within within i ≡ true → is_given choices i ≡ true)
      → are_covered within choices ≡ true

-- whether each element is one of some values
abbrev pub is_text_over : List ℤ → List ℤ → Bool
is_text_over values t = list_all (λ i. list_any (int_eq i) values) t

-- and texts all arrays of so many elements exactly where each array of these values is one of them
pub record TextsAreGiven : Type 0 where
  pub given : (n : ℕ) (values : List ℤ) (texts : List (List ℤ)) (t : List ℤ) → are_texts_covered n values texts ≡ true → length t ≡ n
      → is_text_over values t ≡ true → list_any (same_text t) texts ≡ true
  pub covered : (n : ℕ) (values : List ℤ) (texts : List (List ℤ))
      → ((t : List ℤ) → length t ≡ n → is_text_over values t ≡ true → list_any (same_text t) texts ≡ true) → are_texts_covered n values texts ≡ true
