-- One step through a flat list.
use Rattle.std.specs.Prelude.{ℕ, ◌≡◌, ◌+◌, ◌-◌, ◌<◌, ◌≤◌, List, [], ◌∷◌, ◌++◌, length, take, drop, get_or, Bool, true, false, nat_eq, slice_range, Option, Some, None}
use Rattle.std.proofs.Common.{refl, sym, ap, ◌∙◌, arith, eq-eqb}
use Rattle.std.proofs.lemmas.Bool.{ne_eqb}
use Rattle.std.proofs.Math.Seq.{take-add}
use Rattle.std.proofs.lemmas.List.{drop_more, append_assoc, drop-drop}
use Rattle.vd_gram.specs.declared.tables.Production.{Production}
use Rattle.vd_shapes.specs.Rows.{plain, pieces, pieces_from, kept, row_end}

-- a row grows by what stands behind it
pub row_more : (xs : List ℕ) (s i : ℕ) → s ≤ i → i < length xs → slice_range xs s (i + 1) ≡ slice_range xs s i ++ get_or xs i 0 ∷ []
row_more xs s i le lt =
    let e : i + 1 - s ≡ (i - s) + 1 = omega arith in
    let f : s + (i - s) ≡ i = omega arith in
    ap (λ k. take k (drop s xs)) e ∙ (take-add (i - s) 1 (drop s xs)
    ∙ ap (λ ys. take (i - s) (drop s xs) ++ take 1 ys) (drop-drop (i - s) s xs ∙ (ap (λ k. drop k xs) f ∙ drop_more xs i 0 lt)))

pub no_row : (xs : List ℕ) (i : ℕ) → slice_range xs i i ≡ []
no_row xs i = let e : i - i ≡ 0 = omega arith in ap (λ k. take k (drop i xs)) e

abbrev chosen : Bool → List ℕ → ℕ → List ℕ → List (List ℕ)
chosen b row x xs = elim b [ true ↦ kept row (pieces_from [] xs) | false ↦ pieces_from (row ++ x ∷ []) xs ]

by_test : (b : Bool) (row : List ℕ) (x : ℕ) (xs : List ℕ) → nat_eq x row_end ≡ b → pieces_from row (x ∷ xs) ≡ chosen b row x xs
by_test b row x xs e = ap (λ t. chosen t row x xs) e

-- a symbol of a row
pub row_goes_on : (rows : List (List ℕ)) (xs : List ℕ) (s i : ℕ) → s ≤ i → i < length xs → (get_or xs i 0 ≡ row_end → ⊥)
    → (rows ++ pieces_from (slice_range xs s i) (drop i xs)) ≡ pieces xs → (rows ++ pieces_from (slice_range xs s (i + 1)) (drop (i + 1) xs)) ≡ pieces xs
row_goes_on rows xs s i le lt ne e =
    ap (λ ps. rows ++ ps) (ap (λ row. pieces_from row (drop (i + 1) xs)) (row_more xs s i le lt)
    ∙ (sym (by_test false (slice_range xs s i) (get_or xs i 0) (drop (i + 1) xs) (ne_eqb (get_or xs i 0) row_end ne)) ∙ sym (ap (pieces_from (slice_range xs s i)) (drop_more xs i 0 lt))))
    ∙ e

ends_as : (xs : List ℕ) (s i : ℕ) → i < length xs → get_or xs i 0 ≡ row_end → pieces_from (slice_range xs s i) (drop i xs) ≡ kept (slice_range xs s i) (pieces_from [] (drop (i + 1) xs))
ends_as xs s i lt at = ap (pieces_from (slice_range xs s i)) (drop_more xs i 0 lt) ∙ by_test true (slice_range xs s i) (get_or xs i 0) (drop (i + 1) xs) (eq-eqb (get_or xs i 0) row_end at)

starts_anew : (xs : List ℕ) (i : ℕ) → pieces_from (slice_range xs (i + 1) (i + 1)) (drop (i + 1) xs) ≡ pieces_from [] (drop (i + 1) xs)
starts_anew xs i = ap (λ row. pieces_from row (drop (i + 1) xs)) (no_row xs (i + 1))

-- the end of a row with something in it
pub row_ends : (rows : List (List ℕ)) (xs : List ℕ) (s i : ℕ) (x : ℕ) (row : List ℕ) → i < length xs → get_or xs i 0 ≡ row_end → slice_range xs s i ≡ x ∷ row
    → (rows ++ pieces_from (slice_range xs s i) (drop i xs)) ≡ pieces xs → ((rows ++ (x ∷ row) ∷ []) ++ pieces_from (slice_range xs (i + 1) (i + 1)) (drop (i + 1) xs)) ≡ pieces xs
row_ends rows xs s i x row lt at is e =
    ap (λ ps. (rows ++ (x ∷ row) ∷ []) ++ ps) (starts_anew xs i)
    ∙ (append_assoc rows ((x ∷ row) ∷ []) (pieces_from [] (drop (i + 1) xs))
    ∙ (ap (λ ps. rows ++ ps) (sym (ends_as xs s i lt at ∙ ap (λ r. kept r (pieces_from [] (drop (i + 1) xs))) is)) ∙ e))

-- the end of a row with nothing in it
pub empty_row_ends : (rows : List (List ℕ)) (xs : List ℕ) (s i : ℕ) → i < length xs → get_or xs i 0 ≡ row_end → slice_range xs s i ≡ []
    → (rows ++ pieces_from (slice_range xs s i) (drop i xs)) ≡ pieces xs → (rows ++ pieces_from (slice_range xs (i + 1) (i + 1)) (drop (i + 1) xs)) ≡ pieces xs
empty_row_ends rows xs s i lt at is e =
    ap (λ ps. rows ++ ps) (starts_anew xs i ∙ sym (ends_as xs s i lt at ∙ ap (λ r. kept r (pieces_from [] (drop (i + 1) xs))) is)) ∙ e

pub nothing_in : (xs : List ℕ) → length xs ≡ 0 → xs ≡ []
nothing_in [] e = refl
nothing_in (x ∷ xs) e = absurd (omega arith)

abbrev pub begun_row : Option Production → List ℕ
begun_row None = []
begun_row (Some p) = plain p
