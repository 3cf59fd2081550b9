-- Laws of meanings. No name has a dash, so that a caller can name each in `#[tactic(auto, using(..))]`.
use Rattle.std.proofs.Common.{◌≡◌, ◌∷◌, ◌++◌, length, refl, sym, ap, ◌∙◌, arith}
use Rattle.vd_forest.specs.Forest.{Forest, nothing, more, joined, tree_count, no_place, erased, SameButPlaces}
use Rattle.vd_rewriting.specs.Folding.{Meaning, folded, IsBlind}

module _ {F M : Type 0} (meaning : Meaning F M) where
  -- each tree has one meaning
  pub folded_length : (f : Forest F) → length (folded meaning f) ≡ tree_count f
  folded_length nothing = refl
  folded_length (more form text place parts next) = omega (arith, folded_length next)

  pub folded_joined : (f g : Forest F) → folded meaning (joined f g) ≡ folded meaning f ++ folded meaning g
  folded_joined nothing g = refl
  folded_joined (more form text place parts next) g =
      ap (λ ms. meaning form text place (folded meaning parts) ∷ ms) (folded_joined next g)

  -- what no place changes
  pub folded_erased : IsBlind meaning → (f : Forest F) → folded meaning (erased f) ≡ folded meaning f
  folded_erased blind nothing = refl
  folded_erased blind (more form text place parts next) =
      ap (λ ms. meaning form text no_place ms ∷ folded meaning (erased next)) (folded_erased blind parts)
      ∙ ap (λ m. m ∷ folded meaning (erased next)) (blind form text no_place place (folded meaning parts))
      ∙ ap (λ ms. meaning form text place (folded meaning parts) ∷ ms) (folded_erased blind next)

  pub folded_same : IsBlind meaning → (f g : Forest F) → SameButPlaces f g → folded meaning f ≡ folded meaning g
  folded_same blind f g s = sym (folded_erased blind f) ∙ ap (folded meaning) s.same ∙ folded_erased blind g
