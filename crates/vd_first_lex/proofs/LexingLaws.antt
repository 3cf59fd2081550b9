-- A text has one lexing.
use Rattle.std.proofs.Common.{◌≡◌, ℕ, ◌<◌, ◌≤◌, true, false, eqb, List, [], ◌∷◌, ◌++◌, Option, Some, None, IsSome, refl, sym, ap, ◌∙◌, subst, true≢false, arith}
use Rattle.std.proofs.lemmas.Bool.Decides.{nat_tests}
use Rattle.std.proofs.lemmas.List.{append-nil, map-append, append_assoc}
use Rattle.vd_bytes.specs.declared.places.Place.{Place}
use Rattle.vd_trees.specs.declared.revision.Revision.{Revision}
use Rattle.vd_trees.specs.Identifiers.{is_letter}
use Rattle.vd_first_lex.specs.declared.selected.Selected.{Selected}
use Rattle.vd_first_lex.specs.declared.tokens.Kind.{Kind}
use Rattle.vd_first_lex.specs.declared.tokens.Token.{Token}
use Rattle.vd_first_lex.specs.Lexis.{Spot, spots_of, bytes_of, is_spacing, kind_of, IsLongestToken, Piece, spacing, token, piece_spots, IsPiece, all_spots, ArePieces, piece_tokens, all_tokens, end_token, IsTokenList, BeginsNoToken, BreaksAt}
use Rattle.vd_first_lex.specs.Lexings.{Lexing, lexed, broken, IsLexing}

bytes_of-append : (ss ts : List Spot) → bytes_of (ss ++ ts) ≡ bytes_of ss ++ bytes_of ts
bytes_of-append ss ts = map-append (λ (s : Spot). s.byte) ss ts

heads : (s t : Spot) (ss ts : List Spot) → s ∷ ss ≡ t ∷ ts → s ≡ t
heads s t ss ts e = cc

tails : (s t : Spot) (ss ts : List Spot) → s ∷ ss ≡ t ∷ ts → ss ≡ ts
tails s t ss ts e = cc

-- one of two fronts of a list begins with the other
data Fronts (ss ts x y : List Spot) : Type 0 where
  same : ss ≡ ts → x ≡ y → Fronts ss ts x y
  shorter : (m : Spot) (ms : List Spot) → ts ≡ ss ++ m ∷ ms → x ≡ m ∷ ms ++ y → Fronts ss ts x y
  longer : (m : Spot) (ms : List Spot) → ss ≡ ts ++ m ∷ ms → y ≡ m ∷ ms ++ x → Fronts ss ts x y

fronts : (ss ts x y : List Spot) → ss ++ x ≡ ts ++ y → Fronts ss ts x y
fronts [] [] x y e = same refl e
fronts [] (t ∷ ts) x y e = shorter t ts refl e
fronts (s ∷ ss) [] x y e = longer s ss refl (sym e)
fronts (s ∷ ss) (t ∷ ts) x y e = by (fronts ss ts x y (tails s t (ss ++ x) (ts ++ y) e)) (heads s t (ss ++ x) (ts ++ y) e)
  where
    by : Fronts ss ts x y → s ≡ t → Fronts (s ∷ ss) (t ∷ ts) x y
    by (same f g) h = same (rw (f, h) refl) g
    by (shorter m ms f g) h = shorter m ms (rw (f, h) refl) g
    by (longer m ms f g) h = longer m ms (rw (f, h) refl) g

empty_not : (s : Spot) (ss : List Spot) → [] ≡ s ∷ ss → ⊥
empty_not s ss e = cc

spacing_is_low : (b : ℕ) → is_spacing b ≡ true → b ≤ 32
spacing_is_low b h = grind (arith, nat_tests)

no_letter_low : (b : ℕ) → b ≤ 32 → is_letter b ≡ false
no_letter_low b h = grind (arith, nat_tests)

other_low : (b m : ℕ) → b ≤ 32 → 32 < m → eqb b m ≡ false
other_low b m h k = grind (arith, nat_tests)

module _ (r : Revision) where
  spacing_no_token : (b : ℕ) (more : List ℕ) → is_spacing b ≡ true → kind_of r (b ∷ more) ≡ None
  spacing_no_token b more h =
      let low = spacing_is_low b h in
      rw (no_letter_low b low, other_low b 40 low (omega arith), other_low b 41 low (omega arith), other_low b 44 low (omega arith), other_low b 46 low (omega arith), other_low b 58 low (omega arith), other_low b 59 low (omega arith), other_low b 60 low (omega arith)) refl

  no_some : (o : Option Kind) → o ≡ None → IsSome o → ⊥
  no_some None e h = true≢false (sym h)
  no_some (Some k) e h = cc

  -- what is longer than a longest token is none
  not_longer : (ss : List Spot) (m : Spot) (ms y : List Spot) → IsLongestToken r (bytes_of ss) (bytes_of (m ∷ ms ++ y)) → IsSome (kind_of r (bytes_of (ss ++ m ∷ ms))) → ⊥
  not_longer ss m ms y h some =
      no_some (kind_of r (bytes_of (ss ++ m ∷ ms)))
      (ap (kind_of r) (bytes_of-append ss (m ∷ ms)) ∙ h.longest (bytes_of (m ∷ ms)) (bytes_of y) (bytes_of-append (m ∷ ms) y) (λ e. cc))
      some

  -- two pieces at the front of one text are one
  same_piece : (p q : Piece) (x y : List Spot) → IsPiece r p x → IsPiece r q y → piece_spots p ++ x ≡ piece_spots q ++ y → (p ≡ q) × (x ≡ y)
  same_piece (spacing s) (spacing t) x y h k e = (ap spacing (heads s t x y e), tails s t x y e)
  same_piece (spacing s) (token t ts) x y h k e =
      absurd (no_some (kind_of r (bytes_of (t ∷ ts))) (spacing_no_token t.byte (bytes_of ts) (subst (λ (u : Spot). is_spacing u.byte ≡ true) (heads s t x (ts ++ y) e) h)) k.is_token)
  same_piece (token s ss) (spacing t) x y h k e =
      absurd (no_some (kind_of r (bytes_of (s ∷ ss))) (spacing_no_token s.byte (bytes_of ss) (subst (λ (u : Spot). is_spacing u.byte ≡ true) (sym (heads s t (ss ++ x) y e)) k)) h.is_token)
  same_piece (token s ss) (token t ts) x y h k e = by (fronts (s ∷ ss) (t ∷ ts) x y e)
    where
      by : Fronts (s ∷ ss) (t ∷ ts) x y → (token s ss ≡ token t ts) × (x ≡ y)
      by (same f g) = (cc, g)
      by (shorter m ms f g) =
          absurd (not_longer (s ∷ ss) m ms y (subst (λ z. IsLongestToken r (bytes_of (s ∷ ss)) (bytes_of z)) g h) (subst (λ z. IsSome (kind_of r (bytes_of z))) f k.is_token))
      by (longer m ms f g) =
          absurd (not_longer (t ∷ ts) m ms x (subst (λ z. IsLongestToken r (bytes_of (t ∷ ts)) (bytes_of z)) g k) (subst (λ z. IsSome (kind_of r (bytes_of z))) f h.is_token))

  -- ---- where the pieces stop: at the end, or at a byte at which none begins

  pub data Stops : List Spot → Type 0 where
    at_end : Stops []
    at_break : (spot : Spot) (after : List Spot) → is_spacing spot.byte ≡ false → BeginsNoToken r (bytes_of (spot ∷ after)) → Stops (spot ∷ after)

  begins_none : (q : Piece) (after ss : List Spot) → IsPiece r q after → Stops ss → ss ≡ piece_spots q ++ after → ⊥
  begins_none (spacing s) after ss h at_end e = cc
  begins_none (token s more) after ss h at_end e = cc
  begins_none (spacing s) after ss h (at_break spot rest other none) e =
      true≢false (sym (subst (λ (u : Spot). is_spacing u.byte ≡ true) (sym (heads spot s rest after e)) h) ∙ other)
  begins_none (token s more) after ss h (at_break spot rest other none) e =
      no_some (kind_of r (bytes_of (s ∷ more))) (none (bytes_of (s ∷ more)) (bytes_of after) (ap bytes_of e ∙ bytes_of-append (s ∷ more) after)) h.is_token

  same_pieces : (ps qs : List Piece) (a b : List Spot) → ArePieces r ps a → ArePieces r qs b → Stops a → Stops b → all_spots ps ++ a ≡ all_spots qs ++ b
      → (all_tokens r ps ≡ all_tokens r qs) × (a ≡ b)
  same_pieces [] [] a b h k x y e = (refl, e)
  same_pieces [] (q ∷ qs) a b h k x y e = absurd (begins_none q (all_spots qs ++ b) a k.0 x (e ∙ append_assoc (piece_spots q) (all_spots qs) b))
  same_pieces (p ∷ ps) [] a b h k x y e = absurd (begins_none p (all_spots ps ++ a) b h.0 y (sym e ∙ append_assoc (piece_spots p) (all_spots ps) a))
  same_pieces (p ∷ ps) (q ∷ qs) a b h k x y e =
      let first = same_piece p q (all_spots ps ++ a) (all_spots qs ++ b) h.0 k.0 (sym (append_assoc (piece_spots p) (all_spots ps) a) ∙ (e ∙ append_assoc (piece_spots q) (all_spots qs) b)) in
      let rest = same_pieces ps qs a b h.1 k.1 x y first.1 in
      (ap (λ u. piece_tokens r u ++ all_tokens r ps) first.0 ∙ ap (λ ts. piece_tokens r q ++ ts) rest.0, rest.1)

  module _ (s : Selected) where
    whole_cut : (ts : List Token) (h : IsTokenList r s ts) → all_spots h.pieces ++ [] ≡ spots_of s.file s.lines
    whole_cut ts h = append-nil (all_spots h.pieces) ∙ h.cut

    stops : (p : Place) (h : BreaksAt r s p) → Stops (h.spot ∷ h.after)
    stops p h = at_break h.spot h.after h.no_spacing h.no_token

    pub one_token_list : (ts us : List Token) → IsTokenList r s ts → IsTokenList r s us → ts ≡ us
    one_token_list ts us h k =
        let same = same_pieces h.pieces k.pieces [] [] h.are_pieces k.are_pieces at_end at_end (whole_cut ts h ∙ sym (whole_cut us k)) in
        h.tokens ∙ (ap (λ vs. vs ++ end_token s.file s.lines ∷ []) same.0 ∙ sym k.tokens)

    pub one_break : (p q : Place) → BreaksAt r s p → BreaksAt r s q → p ≡ q
    one_break p q h k =
        let same = same_pieces h.pieces k.pieces (h.spot ∷ h.after) (k.spot ∷ k.after) h.are_pieces k.are_pieces (stops p h) (stops q k) (h.cut ∙ sym k.cut) in
        h.place ∙ (ap (λ (u : Spot). u.place) (heads h.spot k.spot h.after k.after same.1) ∙ sym k.place)

    pub not_both : (ts : List Token) (p : Place) → IsTokenList r s ts → BreaksAt r s p → ⊥
    not_both ts p h k =
        let same = same_pieces h.pieces k.pieces [] (k.spot ∷ k.after) h.are_pieces k.are_pieces at_end (stops p k) (whole_cut ts h ∙ sym k.cut) in
        empty_not k.spot k.after same.1

    -- a text has at most one lexing
    pub one_lexing : (a b : Lexing) → IsLexing r s a → IsLexing r s b → a ≡ b
    one_lexing (lexed ts) (lexed us) h k = ap lexed (one_token_list ts us h k)
    one_lexing (lexed ts) (broken p) h k = absurd (not_both ts p h k)
    one_lexing (broken p) (lexed us) h k = absurd (not_both us p k h)
    one_lexing (broken p) (broken q) h k = ap broken (one_break p q h k)
