-- What the functions of the support package write.
use Rattle.std.proofs.Common.{◌≡◌, List, [], ◌∷◌, map, refl, ap, ◌∙◌}
use Rattle.std.specs.Prelude.{nat_lt, length, Ok}
use Rattle.vd_values.specs.declared.logic.Logic.{Logic}
use Rattle.vd_values.specs.declared.logic.Logic.TheVariants.{U, X, Zero, One, Z, W, L, H, Dash}
use Rattle.vd_composites.specs.declared.ranges.Bounds.{Bounds}
use Rattle.vd_composites.specs.Stops.{◌>>=◌}
use Rattle.vd_vectors.specs.Support.{value, values}
use Rattle.vd_vectors.proofs.SupportLemmas.{value_read, values_read, numbers_by, numbers_made}
use Rattle.vd_operators.specs.declared.texts.TextOperator.TheVariants.{LogicText, LogicsText}
use Rattle.vd_operators.specs.Texts.{text, character_of, written}
use Rattle.vd_operators.specs.Support.{character, vd_str, vd_strv}

same_character : (a : Logic) → character_of a ≡ character a
same_character U = refl
same_character X = refl
same_character Zero = refl
same_character One = refl
same_character Z = refl
same_character W = refl
same_character L = refl
same_character H = refl
same_character Dash = refl

same_characters : (xs : List Logic) → map character_of xs ≡ map character xs
same_characters [] = refl
same_characters (x ∷ xs) = (λ i. same_character x i ∷ same_characters xs i)

pub values_written : (a : Logic) → written LogicText (value a) ≡ Ok (vd_str a)
values_written a = ap (λ g. g >>= λ x. text (character_of x ∷ [])) (value_read a) ∙ ap (λ c. text (c ∷ [])) (same_character a) ∙ numbers_made (character a ∷ [])

pub vectors_written : (b : Bounds) (xs : List Logic) → written LogicsText (values b xs) ≡ vd_strv xs
vectors_written b xs = ap (λ g. g >>= λ ys. text (map character_of ys)) (values_read b xs) ∙ ap text (same_characters xs) ∙ numbers_by (nat_lt 2147483647 (length (map character xs))) (map character xs)
