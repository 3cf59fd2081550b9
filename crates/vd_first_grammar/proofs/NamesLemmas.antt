-- A set of names, where each entry is read as its text.
use Rattle.std.proofs.Common.{◌≡◌, ℕ, Bool, true, false, List, [], ◌∷◌, ◌++◌, map, refl, sym, ap, ◌∙◌}
use Rattle.std.specs.Prelude.{◌||◌, if◌then◌else◌}
use Rattle.std.proofs.lemmas.List.{map-append}
use Rattle.std.specs.List.{list_any}
use Rattle.std.specs.Str.{bytes_eq}
use Rattle.vd_forest.specs.Texts.{with_text}
use Rattle.vd_first_grammar.specs.Reader.{among}

module _ {X : Type 0} (read : X → List ℕ) where
  pub among-map : (text : List ℕ) (xs : List X) → among (map read xs) text ≡ list_any (λ x. bytes_eq text (read x)) xs
  among-map text [] = refl
  among-map text (x ∷ xs) = ap (λ (b : Bool). bytes_eq text (read x) || b) (among-map text xs)

  pub with_text-map : (xs ys : List X) (new : X) → ys ≡ (if list_any (λ x. bytes_eq (read new) (read x)) xs then xs else xs ++ new ∷ []) → map read ys ≡ with_text (map read xs) (read new)
  with_text-map xs ys new made =
      ap (map read) made ∙ go (list_any (λ x. bytes_eq (read new) (read x)) xs) ∙ ap (λ (b : Bool). if b then map read xs else map read xs ++ read new ∷ []) (sym (among-map (read new) xs))
    where
      go : (b : Bool) → map read (if b then xs else xs ++ new ∷ []) ≡ (if b then map read xs else map read xs ++ read new ∷ [])
      go true = refl
      go false = map-append read xs (new ∷ [])
