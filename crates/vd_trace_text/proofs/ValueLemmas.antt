-- The lines of signals, one after the other.
use Rattle.std.proofs.Common.{◌≡◌, ℕ, zero, suc, ◌+◌, ◌<◌, ◌≤◌, Bool, List, [], ◌∷◌, ◌++◌, length, drop, get_or, refl, sym, ap, ◌∙◌, append_assoc, add-one}
use Rattle.std.specs.Prelude.{if◌then◌else◌}
use Rattle.std.specs.Borrow.{Bor}
use Rattle.std.proofs.Math.Seq.{drop-cons}
use Rattle.std.proofs.lemmas.List.{drop_all}
use Rattle.vd_values.specs.declared.scalar.Scalar.{Scalar}
use Rattle.vd_trees.specs.declared.paths.Path.{Path}
use Rattle.vd_trees.specs.ValueTexts.{ScalarType}
use Rattle.vd_trees.specs.TraceText.{value_line, value_lines, is_new}
use Rattle.vd_trace_text.specs.Types.{types_behind}

drop_one : {A : Type 0} → (xs : List A) (i : ℕ) → drop 1 (drop i xs) ≡ drop (suc i) xs
drop_one [] zero = refl
drop_one [] (suc i) = refl
drop_one (x ∷ xs) zero = refl
drop_one (x ∷ xs) (suc i) = drop_one xs i

-- what was read stands first in what is left
drop-read : {A : Type 0} → (xs : List A) (i : ℕ) (x : A) → i < length xs → x ≡ get_or xs i x → drop i xs ≡ x ∷ drop (suc i) xs
drop-read xs i x within read = drop-cons xs i x within ∙ ap (λ y. y ∷ drop (suc i) xs) (sym read)

no_values : (ps : List Path) (ts : List ScalarType) (es : List Scalar) → value_lines ps ts es [] ≡ []
no_values [] ts es = refl
no_values (p ∷ ps) [] es = refl
no_values (p ∷ ps) (t ∷ ts) es = refl

module _ (ps : List Path) (ts : List (Bor ScalarType)) (es vs : List Scalar) where
  -- what is left to write
  abbrev pub left_from : ℕ → List ℕ
  left_from i = value_lines (drop i ps) (types_behind (drop i ts)) (drop i es) (drop i vs)

  pub left_from-end : (i : ℕ) → length vs ≤ i → left_from i ≡ []
  left_from-end i past = rw (drop_all i vs past) (no_values (drop i ps) (types_behind (drop i ts)) (drop i es))

  module _ (i : ℕ) (p : Path) (t : Bor ScalarType) (v : Scalar) where
    -- the line of one signal
    abbrev line_at : List ℕ
    line_at = if is_new (drop i es) v then value_line p t.now v else []

    left_from-suc : i < length ps → p ≡ get_or ps i p → i < length ts → t ≡ get_or ts i t → drop i vs ≡ v ∷ drop (suc i) vs → left_from i ≡ line_at ++ left_from (suc i)
    left_from-suc a b c d e =
        rw (drop-read ps i p a b, drop-read ts i t c d, e)
        (ap (λ earlier. line_at ++ value_lines (drop (suc i) ps) (types_behind (drop (suc i) ts)) earlier (drop (suc i) vs)) (drop_one es i))

    -- once it is written, the others are left
    pub written_one : (old new : List ℕ) (b : Bool) → i < length ps → p ≡ get_or ps i p → i < length ts → t ≡ get_or ts i t → drop i vs ≡ v ∷ drop (suc i) vs
        → b ≡ is_new (drop i es) v
        → new ≡ old ++ (if b then value_line p t.now v else [])
        → new ++ left_from (i + 1) ≡ old ++ left_from i
    written_one old new b h k m n o is w =
        ap (λ j. new ++ left_from j) (add-one i)
        ∙ ap (λ x. x ++ left_from (suc i)) (w ∙ ap (λ a. old ++ (if a then value_line p t.now v else [])) is)
        ∙ append_assoc old line_at (left_from (suc i))
        ∙ ap (λ x. old ++ x) (sym (left_from-suc h k m n o))
