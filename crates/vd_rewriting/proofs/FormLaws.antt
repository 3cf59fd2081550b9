-- Laws of a change of forms. No name has a dash, so that a caller can name each in `#[tactic(auto, using(..))]`.
use Rattle.std.proofs.Common.{◌≡◌, ℕ, zero, suc, ◌∷◌, Option, Some, None, refl, sym, ap, ◌∙◌, arith}
use Rattle.vd_forest.specs.Forest.{Forest, nothing, more, form_of, text_of, place_of, parts_of, next_of, skipped, size, tree_count, joined, turned, reversed, with_next, no_place, erased, SameButPlaces}
use Rattle.vd_rewriting.specs.Folding.{Meaning, folded}
use Rattle.vd_rewriting.specs.Forms.{with_forms, forms_pass, meaning_of_forms}
use Rattle.vd_rewriting.specs.Rewriting.{rewritten}

-- ---- changes after one another

module _ {F : Type 0} where
  pub forms_same : (f : Forest F) → with_forms (λ form. form) f ≡ f
  forms_same nothing = refl
  forms_same (more form text place parts next) =
      ap (λ a. more form text place a (with_forms (λ form. form) next)) (forms_same parts) ∙ ap (more form text place parts) (forms_same next)

module _ {F G H : Type 0} (first : F → G) (second : G → H) where
  pub forms_forms : (f : Forest F) → with_forms second (with_forms first f) ≡ with_forms (λ form. second (first form)) f
  forms_forms nothing = refl
  forms_forms (more form text place parts next) =
      ap (λ a. more (second (first form)) text place a (with_forms second (with_forms first next))) (forms_forms parts)
      ∙ ap (more (second (first form)) text place (with_forms (λ form. second (first form)) parts)) (forms_forms next)

module _ {F G : Type 0} (change : F → G) where
  -- ---- what stays

  pub size_forms : (f : Forest F) → size (with_forms change f) ≡ size f
  size_forms nothing = refl
  size_forms (more form text place parts next) = omega (arith, size_forms parts, size_forms next)

  pub tree_count_forms : (f : Forest F) → tree_count (with_forms change f) ≡ tree_count f
  tree_count_forms nothing = refl
  tree_count_forms (more form text place parts next) = omega (arith, tree_count_forms next)

  pub text_of_forms : (f : Forest F) → text_of (with_forms change f) ≡ text_of f
  text_of_forms nothing = refl
  text_of_forms (more form text place parts next) = refl

  pub place_of_forms : (f : Forest F) → place_of (with_forms change f) ≡ place_of f
  place_of_forms nothing = refl
  place_of_forms (more form text place parts next) = refl

  -- ---- what changes with the forms

  -- the form of a first tree, where there is one
  abbrev pub changed : Option F → Option G
  changed None = None
  changed (Some form) = Some (change form)

  pub form_of_forms : (f : Forest F) → form_of (with_forms change f) ≡ changed (form_of f)
  form_of_forms nothing = refl
  form_of_forms (more form text place parts next) = refl

  pub parts_of_forms : (f : Forest F) → parts_of (with_forms change f) ≡ with_forms change (parts_of f)
  parts_of_forms nothing = refl
  parts_of_forms (more form text place parts next) = refl

  pub next_of_forms : (f : Forest F) → next_of (with_forms change f) ≡ with_forms change (next_of f)
  next_of_forms nothing = refl
  next_of_forms (more form text place parts next) = refl

  pub skipped_forms : (n : ℕ) (f : Forest F) → skipped n (with_forms change f) ≡ with_forms change (skipped n f)
  skipped_forms zero f = refl
  skipped_forms (suc n) f = ap (skipped n) (next_of_forms f) ∙ skipped_forms n (next_of f)

  pub joined_forms : (f g : Forest F) → with_forms change (joined f g) ≡ joined (with_forms change f) (with_forms change g)
  joined_forms nothing g = refl
  joined_forms (more form text place parts next) g = ap (more (change form) text place (with_forms change parts)) (joined_forms next g)

  pub turned_forms : (f g : Forest F) → with_forms change (turned f g) ≡ turned (with_forms change f) (with_forms change g)
  turned_forms nothing g = refl
  turned_forms (more form text place parts next) g = turned_forms next (more form text place parts g)

  pub reversed_forms : (f : Forest F) → with_forms change (reversed f) ≡ reversed (with_forms change f)
  reversed_forms f = turned_forms f nothing

  pub with_next_forms : (f g : Forest F) → with_forms change (with_next f g) ≡ with_next (with_forms change f) (with_forms change g)
  with_next_forms nothing g = refl
  with_next_forms (more form text place parts next) g = refl

  pub erased_forms : (f : Forest F) → erased (with_forms change f) ≡ with_forms change (erased f)
  erased_forms nothing = refl
  erased_forms (more form text place parts next) =
      ap (λ a. more (change form) text no_place a (erased (with_forms change next))) (erased_forms parts)
      ∙ ap (more (change form) text no_place (with_forms change (erased parts))) (erased_forms next)

  pub same_forms : (f g : Forest F) → SameButPlaces f g → SameButPlaces (with_forms change f) (with_forms change g)
  same_forms f g s = record { same = erased_forms f ∙ ap (with_forms change) s.same ∙ sym (erased_forms g) }

  -- ---- as a pass, and under a meaning

  pub rewritten_forms : (f : Forest F) → rewritten (forms_pass change) f ≡ with_forms change f
  rewritten_forms nothing = refl
  rewritten_forms (more form text place parts next) =
      ap (λ a. more (change form) text place a (rewritten (forms_pass change) next)) (rewritten_forms parts)
      ∙ ap (more (change form) text place (with_forms change parts)) (rewritten_forms next)

  pub folded_forms : {M : Type 0} (meaning : Meaning G M) (f : Forest F)
      → folded meaning (with_forms change f) ≡ folded (meaning_of_forms change meaning) f
  folded_forms meaning nothing = refl
  folded_forms meaning (more form text place parts next) =
      ap (λ ms. meaning (change form) text place ms ∷ folded meaning (with_forms change next)) (folded_forms meaning parts)
      ∙ ap (λ ms. meaning (change form) text place (folded (meaning_of_forms change meaning) parts) ∷ ms) (folded_forms meaning next)
