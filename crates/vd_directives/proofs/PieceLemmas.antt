-- Quoted texts and pieces are read from the front.
use Rattle.std.proofs.Common.{◌≡◌, ℕ, suc, true, false, eqb, List, [], ◌∷◌, ◌++◌, drop, Option, Some, None, refl, sym, ap, ◌∙◌, append_assoc}
use Rattle.std.specs.Option.{option_map}
use Rattle.std.proofs.lemmas.List.{append-nil}
use Rattle.vd_directives.specs.declared.pieces.Piece.{Piece}
use Rattle.vd_directives.specs.Pieces.{is_graphic, starts_with, said_first, quoted, Begins, ends, piece, piece_first, spacing_length, first_of, pieces_within}

-- what was said so far, in front
abbrev pub said_before : List ℕ → Option (List ℕ × List ℕ) → Option (List ℕ × List ℕ)
said_before said None = None
said_before said (Some p) = Some (said ++ p.0, p.1)

said_one : (said : List ℕ) (b : ℕ) (r : Option (List ℕ × List ℕ)) → said_before said (said_first b r) ≡ said_before (said ++ b ∷ []) r
said_one said b None = refl
said_one said b (Some p) = ap (λ bs. Some (bs, p.1)) (sym (append_assoc said (b ∷ []) p.0))

pub said_none : (r : Option (List ℕ × List ℕ)) → r ≡ said_before [] r
said_none None = refl
said_none (Some p) = refl

quoted_other : (b : ℕ) (after : List ℕ) → eqb b 34 ≡ false → is_graphic b ≡ true → quoted (b ∷ after) ≡ said_first b (quoted after)
quoted_other b [] other graphic = rw other refl
quoted_other b (c ∷ bs) other graphic = rw (other, graphic) refl

pub said_more : (rest after said : List ℕ) (b : ℕ) (want : Option (List ℕ × List ℕ)) → rest ≡ b ∷ after → eqb b 34 ≡ false → is_graphic b ≡ true
    → want ≡ said_before said (quoted rest) → want ≡ said_before (said ++ b ∷ []) (quoted after)
said_more rest after said b want split other graphic so_far =
    so_far ∙ ap (λ r. said_before said (quoted r)) split ∙ ap (said_before said) (quoted_other b after other graphic) ∙ said_one said b (quoted after)

pub said_mark : (rest after more said : List ℕ) (b : ℕ) (want : Option (List ℕ × List ℕ)) → rest ≡ b ∷ after → b ≡ 34 → after ≡ 34 ∷ more
    → want ≡ said_before said (quoted rest) → want ≡ said_before (said ++ b ∷ []) (quoted more)
said_mark rest after more said b want split is double so_far =
    so_far ∙ ap (λ r. said_before said (quoted r)) (split ∙ ap (λ c. c ∷ after) is ∙ ap (λ r. 34 ∷ r) double) ∙ said_one said 34 (quoted more)
    ∙ ap (λ c. said_before (said ++ c ∷ []) (quoted more)) (sym is)

quoted_end : (after : List ℕ) → starts_with 34 after ≡ false → quoted (34 ∷ after) ≡ Some ([], after)
quoted_end [] single = refl
quoted_end (c ∷ bs) single = rw single refl

pub said_all : (rest after said : List ℕ) (want : Option (List ℕ × List ℕ)) → rest ≡ 34 ∷ after → starts_with 34 after ≡ false
    → want ≡ said_before said (quoted rest) → want ≡ Some (said, after)
said_all rest after said want split single so_far =
    so_far ∙ ap (λ r. said_before said (quoted r)) split ∙ ap (said_before said) (quoted_end after single) ∙ ap (λ bs. Some (bs, after)) (append-nil said)

quoted_nonsense : (b : ℕ) (after : List ℕ) → eqb b 34 ≡ false → is_graphic b ≡ false → quoted (b ∷ after) ≡ None
quoted_nonsense b [] other graphic = rw other refl
quoted_nonsense b (c ∷ bs) other graphic = rw (other, graphic) refl

pub said_nonsense : (rest after said : List ℕ) (b : ℕ) (want : Option (List ℕ × List ℕ)) → rest ≡ b ∷ after → eqb b 34 ≡ false → is_graphic b ≡ false
    → want ≡ said_before said (quoted rest) → want ≡ None
said_nonsense rest after said b want split other graphic so_far =
    so_far ∙ ap (λ r. said_before said (quoted r)) split ∙ ap (said_before said) (quoted_nonsense b after other graphic)

-- ---- all pieces

abbrev pub found_before : List Piece → Option (List Piece) → Option (List Piece)
found_before found None = None
found_before found (Some ps) = Some (found ++ ps)

pub found_none : (r : Option (List Piece)) → r ≡ found_before [] r
found_none None = refl
found_none (Some ps) = refl

found_one : (found : List Piece) (p : Piece) (r : Option (List Piece)) → found_before found (option_map (λ ps. p ∷ ps) r) ≡ found_before (found ++ p ∷ []) r
found_one found p None = refl
found_one found p (Some ps) = ap Some (sym (append_assoc found (p ∷ []) ps))

-- one step of the loop: so many are left
pub found_step : (n k : ℕ) (rest : List ℕ) (found : List Piece) (b : Begins) (want : Option (List Piece)) → suc k ≡ n
    → first_of (drop (spacing_length rest) rest) ≡ b → want ≡ found_before found (pieces_within n rest) → want ≡ found_before found (piece_first b (pieces_within k))
found_step n k rest found b want less is so_far =
    so_far ∙ ap (λ m. found_before found (pieces_within m rest)) (sym less) ∙ ap (λ c. found_before found (piece_first c (pieces_within k))) is

pub found_more : (k : ℕ) (found : List Piece) (p : Piece) (after : List ℕ) (want : Option (List Piece)) → want ≡ found_before found (piece_first (piece p after) (pieces_within k))
    → want ≡ found_before (found ++ p ∷ []) (pieces_within k after)
found_more k found p after want is = is ∙ found_one found p (pieces_within k after)

pub found_end : (k : ℕ) (found : List Piece) (want : Option (List Piece)) → want ≡ found_before found (piece_first ends (pieces_within k)) → Some found ≡ want
found_end k found want is = sym (is ∙ ap Some (append-nil found))

pub found_all : (k : ℕ) (rest : List ℕ) (found : List Piece) (want : Option (List Piece)) → k ≡ 0 → want ≡ found_before found (pieces_within k rest) → Some found ≡ want
found_all k rest found want none is = sym (is ∙ ap (λ m. found_before found (pieces_within m rest)) none ∙ ap Some (append-nil found))
