-- Each text has a lexing.
use Rattle.std.proofs.Common.{◌≡◌, ◌≢◌, ℕ, zero, suc, ◌<◌, ◌≤◌, Bool, true, false, ◌⊎◌, inl, inr, List, [], ◌∷◌, ◌++◌, length, take, drop, Option, Some, None, IsSome, refl, sym, ap, ◌∙◌, subst, take-append-drop, arith}
use Rattle.std.proofs.lemmas.List.{append-nil, append_assoc, length-append, length-drop, length-take-le, take_at, take-map, drop-map}
use Rattle.std.proofs.lemmas.Bool.{cases_lt}
use Rattle.vd_trees.specs.declared.revision.Revision.{Revision}
use Rattle.vd_first_lex.specs.declared.selected.Selected.{Selected}
use Rattle.vd_first_lex.specs.declared.tokens.Kind.{Kind}
use Rattle.vd_first_lex.specs.Lexis.{Spot, spots_of, bytes_of, is_spacing, kind_of, IsLongestToken, Piece, spacing, token, piece_spots, IsPiece, all_spots, ArePieces, all_tokens, end_token, BeginsNoToken}
use Rattle.vd_first_lex.specs.Lexings.{Lexing, lexed, broken, IsLexing}
use Rattle.vd_first_lex.proofs.LexingLaws.{Stops, at_end, at_break}

module _ (r : Revision) where
  -- a longest token at the front, or none
  data Front (text : List ℕ) : Type 0 where
    no_token : BeginsNoToken r text → Front text
    longest : (n : ℕ) → n < length text → IsLongestToken r (take (suc n) text) (drop (suc n) text) → Front text

  exactly : (text front rest : List ℕ) (n : ℕ) → text ≡ front ++ rest → length front ≡ n → kind_of r (take n text) ≡ None → kind_of r front ≡ None
  exactly text front rest n e l none = ap (kind_of r) (sym (take_at front rest n l) ∙ ap (take n) (sym e)) ∙ none

  step : (text : List ℕ) (n : ℕ) → kind_of r (take (suc n) text) ≡ None → ((front rest : List ℕ) → text ≡ front ++ rest → suc n < length front → kind_of r front ≡ None)
      → (front rest : List ℕ) → text ≡ front ++ rest → n < length front → kind_of r front ≡ None
  step text n none h front rest e l = by (cases_lt (suc n) (length front))
    where
      by : (suc n < length front) ⊎ (length front ≤ suc n) → kind_of r front ≡ None
      by (inl k) = h front rest e k
      by (inr k) = exactly text front rest (suc n) e (omega arith) none

  front_of : (text : List ℕ) (n : ℕ) → n ≤ length text → ((front rest : List ℕ) → text ≡ front ++ rest → n < length front → kind_of r front ≡ None) → Front text
  front_of text zero l h = no_token (λ front rest e. at_none front rest e)
    where
      at_none : (front rest : List ℕ) → text ≡ front ++ rest → kind_of r front ≡ None
      at_none [] rest e = refl
      at_none (f ∷ fs) rest e = h (f ∷ fs) rest e (omega arith)
  front_of text (suc n) l h = by (kind_of r (take (suc n) text)) refl (front_of text n (omega arith))
    where
      more_than : (more rest : List ℕ) → drop (suc n) text ≡ more ++ rest → more ≢ [] → kind_of r (take (suc n) text ++ more) ≡ None
      more_than [] rest e some = absurd (some refl)
      more_than (m ∷ more) rest e some =
          h (take (suc n) text ++ m ∷ more) rest (sym (take-append-drop (suc n) text) ∙ (ap (λ xs. take (suc n) text ++ xs) e ∙ sym (append_assoc (take (suc n) text) (m ∷ more) rest)))
          (let e1 = length-append (take (suc n) text) (m ∷ more) in let e2 = length-take-le (suc n) text l in omega (arith, e1, e2))

      by : (o : Option Kind) → kind_of r (take (suc n) text) ≡ o
          → (((front rest : List ℕ) → text ≡ front ++ rest → n < length front → kind_of r front ≡ None) → Front text) → Front text
      by None e rec = rec (step text n e h)
      by (Some k) e rec = longest n (omega arith) (record { is_token = subst IsSome (sym e) refl; longest = more_than })

  no_more : (text front rest : List ℕ) → text ≡ front ++ rest → length text < length front → kind_of r front ≡ None
  no_more text front rest e l = let k = ap length e ∙ length-append front rest in absurd (omega (arith, k))

  any_front : (text : List ℕ) → Front text
  any_front text = front_of text (length text) (omega arith) (no_more text)

  -- ---- pieces, as far as they go

  record IsCut (text : List Spot) : Type 0 where
    pieces : List Piece
    after : List Spot
    cut : all_spots pieces ++ after ≡ text
    are_pieces : ArePieces r pieces after
    stops : Stops r after

  cut_first : (p : Piece) (text : List Spot) → (c : IsCut text) → IsPiece r p text → IsCut (piece_spots p ++ text)
  cut_first p text c h = record {
    pieces = p ∷ c.pieces;
    after = c.after;
    cut = append_assoc (piece_spots p) (all_spots c.pieces) c.after ∙ ap (λ xs. piece_spots p ++ xs) c.cut;
    are_pieces = (subst (IsPiece r p) (sym c.cut) h, c.are_pieces);
    stops = c.stops;
  }

  cut_token : (s : Spot) (ss : List Spot) (n : ℕ) → IsLongestToken r (take (suc n) (bytes_of (s ∷ ss))) (drop (suc n) (bytes_of (s ∷ ss))) → IsCut (drop n ss) → IsCut (s ∷ ss)
  cut_token s ss n h c =
      subst (λ xs. IsCut (s ∷ xs)) (take-append-drop n ss) (cut_first (token s (take n ss)) (drop n ss) c
      (subst (λ xs. IsLongestToken r (s.byte ∷ xs) (bytes_of (drop n ss))) (take-map (λ (u : Spot). u.byte) n ss)
      (subst (λ xs. IsLongestToken r (s.byte ∷ take n (bytes_of ss)) xs) (drop-map (λ (u : Spot). u.byte) n ss) h)))

  cut_of : (n : ℕ) (text : List Spot) → length text ≤ n → IsCut text
  cut_of n [] l = record { pieces = []; after = []; cut = refl; are_pieces = tt; stops = at_end }
  cut_of zero (s ∷ ss) l = absurd (omega arith)
  cut_of (suc n) (s ∷ ss) l = by (is_spacing s.byte) refl (cut_of n)
    where
      by_token : is_spacing s.byte ≡ false → Front (bytes_of (s ∷ ss)) → ((text : List Spot) → length text ≤ n → IsCut text) → IsCut (s ∷ ss)
      by_token e (no_token none) rec = record { pieces = []; after = s ∷ ss; cut = refl; are_pieces = tt; stops = at_break s ss e none }
      by_token e (longest k within h) rec = cut_token s ss k h (rec (drop k ss) (let d = length-drop k ss in omega (arith, d)))

      by : (t : Bool) → is_spacing s.byte ≡ t → ((text : List Spot) → length text ≤ n → IsCut text) → IsCut (s ∷ ss)
      by true e rec = cut_first (spacing s) ss (rec ss (omega arith)) e
      by false e rec = by_token e (any_front (bytes_of (s ∷ ss))) rec

  lexing_of : (s : Selected) (ps : List Piece) (after : List Spot) → all_spots ps ++ after ≡ spots_of s.file s.lines → ArePieces r ps after → Stops r after → (a : Lexing) × IsLexing r s a
  lexing_of s ps after e h at_end =
      (lexed (all_tokens r ps ++ end_token s.file s.lines ∷ []), record { pieces = ps; cut = sym (append-nil (all_spots ps)) ∙ e; are_pieces = h; tokens = refl })
  lexing_of s ps after e h (at_break spot rest other none) =
      (broken spot.place, record { pieces = ps; spot = spot; after = rest; cut = e; are_pieces = h; no_spacing = other; no_token = none; place = refl })

  -- each text has a lexing
  pub some_lexing : (s : Selected) → (a : Lexing) × IsLexing r s a
  some_lexing s = let c = cut_of (length (spots_of s.file s.lines)) (spots_of s.file s.lines) (omega arith) in lexing_of s c.pieces c.after c.cut c.are_pieces c.stops
