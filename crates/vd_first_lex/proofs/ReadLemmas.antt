-- What is read of a text, piece by piece and line by line.
use Rattle.std.proofs.Common.{◌≡◌, ℕ, zero, suc, ◌+◌, ◌-◌, ◌<◌, ◌≤◌, true, false, List, [], ◌∷◌, ◌++◌, length, take, drop, get_or, slice_index, Result, Ok, Err, is_ok, IfOk, OnOk, IsErrAnd, MatchResult, IsSome, refl, sym, ap, ◌∙◌, subst, arith, append_assoc}
use Rattle.std.proofs.lemmas.List.{append-nil, at_drop_more, at_drop_all}
use Rattle.vd_bytes.specs.declared.answers.Refusal.{Refusal}
use Rattle.vd_bytes.specs.declared.answers.Refusal.TheVariants.{Refused, Memory}
use Rattle.vd_bytes.specs.declared.places.Place.{Place}
use Rattle.vd_trees.specs.declared.revision.Revision.{Revision}
use Rattle.vd_first_lex.specs.declared.selected.Line.{Line}
use Rattle.vd_first_lex.specs.declared.selected.Selected.{Selected}
use Rattle.vd_first_lex.specs.declared.tokens.Kind.{Kind}
use Rattle.vd_first_lex.specs.declared.tokens.Token.{Token}
use Rattle.vd_first_lex.specs.Lexis.{Spot, place_at, line_spots, spots_of, bytes_of, is_spacing, kind_of, token_with, Piece, spacing, token, piece_spots, IsPiece, all_spots, ArePieces, piece_tokens, all_tokens, end_place, end_token, IsLongestToken, BeginsNoToken, IsTokenList, BreaksAt}
use Rattle.vd_first_lex.specs.Lexings.{IsBreakOf}
use Rattle.vd_first_lex.specs.Scans.{BeginsToken, BeginsNone, spots_from, token_at, moved, ReadsTokens, BreaksWithin, IsBreakWithin}

pub on_ok : {T E P : Type 0} (r : Result T E) → is_ok r ≡ true → OnOk r P → P
on_ok (Ok x) e h = h
on_ok (Err x) e h = cc

-- ---- spots and bytes

-- the spots of a text on one line
text_spots : ℕ → ℕ → ℕ → List ℕ → List Spot
text_spots file line column [] = []
text_spots file line column (b ∷ bs) = record { byte = b; place = place_at file line column } ∷ text_spots file line (column + 1) bs

bytes_of-text_spots : (f l c : ℕ) (bs : List ℕ) → bytes_of (text_spots f l c bs) ≡ bs
unfolding text_spots
bytes_of-text_spots f l c [] = refl
bytes_of-text_spots f l c (b ∷ bs) = ap (λ xs. b ∷ xs) (bytes_of-text_spots f l (c + 1) bs)

bytes_of-line_spots : (f l c : ℕ) (bs : List ℕ) (behind : List Spot) → bytes_of (line_spots f l c bs ++ behind) ≡ bs ++ 10 ∷ bytes_of behind
bytes_of-line_spots f l c [] behind = refl
bytes_of-line_spots f l c (b ∷ bs) behind = ap (λ xs. b ∷ xs) (bytes_of-line_spots f l (c + 1) bs behind)

line_spots-split : (f l c n : ℕ) (bs : List ℕ) → n ≤ length bs → text_spots f l c (take n bs) ++ line_spots f l (c + n) (drop n bs) ≡ line_spots f l c bs
unfolding text_spots
line_spots-split f l c zero bs h = ap (λ k. line_spots f l k bs) (omega arith)
line_spots-split f l c (suc n) [] h = absurd (omega arith)
line_spots-split f l c (suc n) (b ∷ bs) h =
    let e : c + suc n ≡ c + 1 + n = omega arith in
    ap (λ xs. record { byte = b; place = place_at f l c } ∷ xs)
    (ap (λ k. text_spots f l (c + 1) (take n bs) ++ line_spots f l k (drop n bs)) e ∙ line_spots-split f l (c + 1) n bs (omega arith))

-- ---- pieces one after another

all_spots-append : (ps qs : List Piece) → all_spots (ps ++ qs) ≡ all_spots ps ++ all_spots qs
all_spots-append [] qs = refl
all_spots-append (p ∷ ps) qs = ap (λ xs. piece_spots p ++ xs) (all_spots-append ps qs) ∙ sym (append_assoc (piece_spots p) (all_spots ps) (all_spots qs))

module _ (r : Revision) where
  all_tokens-append : (ps qs : List Piece) → all_tokens r (ps ++ qs) ≡ all_tokens r ps ++ all_tokens r qs
  all_tokens-append [] qs = refl
  all_tokens-append (p ∷ ps) qs = ap (λ xs. piece_tokens r p ++ xs) (all_tokens-append ps qs) ∙ sym (append_assoc (piece_tokens r p) (all_tokens r ps) (all_tokens r qs))

  ArePieces-append : (ps qs : List Piece) (after : List Spot) → ArePieces r ps (all_spots qs ++ after) → ArePieces r qs after → ArePieces r (ps ++ qs) after
  ArePieces-append [] qs after h k = k
  ArePieces-append (p ∷ ps) qs after h k =
      (subst (IsPiece r p) (sym (ap (λ xs. xs ++ after) (all_spots-append ps qs) ∙ append_assoc (all_spots ps) (all_spots qs) after)) h.0, ArePieces-append ps qs after h.1 k)

  pub reads_none : (old : List Token) (text : List Spot) → ReadsTokens r old old text text
  reads_none old text = record { pieces = []; cut = refl; are_pieces = λ behind. tt; tokens = sym (append-nil old) }

  module _ (old mid new : List Token) (text between rest : List Spot) where
    cut_then : (ps qs : List Piece) → all_spots ps ++ between ≡ text → all_spots qs ++ rest ≡ between → all_spots (ps ++ qs) ++ rest ≡ text
    cut_then ps qs e f = ap (λ xs. xs ++ rest) (all_spots-append ps qs) ∙ (append_assoc (all_spots ps) (all_spots qs) rest ∙ (ap (λ xs. all_spots ps ++ xs) f ∙ e))

    pieces_then : (ps qs : List Piece) (behind : List Spot) → all_spots qs ++ rest ≡ between → ArePieces r ps (between ++ behind) → ArePieces r qs (rest ++ behind)
        → ArePieces r (ps ++ qs) (rest ++ behind)
    pieces_then ps qs behind f h k =
        ArePieces-append ps qs (rest ++ behind) (subst (ArePieces r ps) (ap (λ xs. xs ++ behind) (sym f) ∙ append_assoc (all_spots qs) rest behind) h) k

    pub reads_then : ReadsTokens r old mid text between → ReadsTokens r mid new between rest → ReadsTokens r old new text rest
    reads_then a b = record {
      pieces = a.pieces ++ b.pieces;
      cut = cut_then a.pieces b.pieces a.cut b.cut;
      are_pieces = λ behind. pieces_then a.pieces b.pieces behind b.cut (a.are_pieces behind) (b.are_pieces behind);
      tokens = b.tokens ∙ (ap (λ ts. ts ++ all_tokens r b.pieces) a.tokens ∙ (append_assoc old (all_tokens r a.pieces) (all_tokens r b.pieces) ∙ ap (λ ts. old ++ ts) (sym (all_tokens-append a.pieces b.pieces))));
    }

  module _ (old mid : List Token) (text between : List Spot) (a : ReadsTokens r old mid text between) where
    breaks_then : (p : Place) → BreaksWithin r between p → BreaksWithin r text p
    breaks_then p b = record {
      pieces = a.pieces ++ b.pieces;
      spot = b.spot;
      after = b.after;
      cut = cut_then old mid mid text between (b.spot ∷ b.after) a.pieces b.pieces a.cut b.cut;
      are_pieces = λ behind. pieces_then old mid mid text between (b.spot ∷ b.after) a.pieces b.pieces behind b.cut (a.are_pieces behind) (b.are_pieces behind);
      no_spacing = b.no_spacing;
      no_token = b.no_token;
      place = b.place;
    }

    pub refused_then : (e : Refusal) → IsBreakWithin r between e → IsBreakWithin r text e
    refused_then (Refused e) h = (h.0, breaks_then e.place h.1)
    refused_then Memory h = tt

  -- what is read of a line is read of what begins with the line
  pub reads_in_front : (old new : List Token) (line rest : List Spot) → ReadsTokens r old new line [] → ReadsTokens r old new (line ++ rest) rest
  reads_in_front old new line rest a = record {
    pieces = a.pieces;
    cut = ap (λ xs. xs ++ rest) (sym (append-nil (all_spots a.pieces)) ∙ a.cut);
    are_pieces = λ behind. a.are_pieces (rest ++ behind);
    tokens = a.tokens;
  }

  breaks_in_front : (line rest : List Spot) (p : Place) → BreaksWithin r line p → BreaksWithin r (line ++ rest) p
  breaks_in_front line rest p b = record {
    pieces = b.pieces;
    spot = b.spot;
    after = b.after ++ rest;
    cut = sym (append_assoc (all_spots b.pieces) (b.spot ∷ b.after) rest) ∙ ap (λ xs. xs ++ rest) b.cut;
    are_pieces = λ behind. subst (λ xs. ArePieces r b.pieces (b.spot ∷ xs)) (sym (append_assoc b.after rest behind)) (b.are_pieces (rest ++ behind));
    no_spacing = b.no_spacing;
    no_token = λ behind. subst (λ xs. BeginsNoToken r (bytes_of (b.spot ∷ xs))) (sym (append_assoc b.after rest behind)) (b.no_token (rest ++ behind));
    place = b.place;
  }

  pub refused_in_front : (line rest : List Spot) (e : Refusal) → IsBreakWithin r line e → IsBreakWithin r (line ++ rest) e
  refused_in_front line rest (Refused e) h = (h.0, breaks_in_front line rest e.place h.1)
  refused_in_front line rest Memory h = tt

  -- ---- one piece

  pub reads_spacing : (old : List Token) (p : Place) (bs : List ℕ) → 0 < length bs → is_spacing (slice_index bs 0) ≡ true
      → ReadsTokens r old old (spots_from p bs) (spots_from (moved p 1) (drop 1 bs))
  reads_spacing old p [] h e = absurd (omega arith)
  reads_spacing old p (b ∷ bs) h e = record {
    pieces = spacing (record { byte = b; place = p }) ∷ [];
    cut = refl;
    are_pieces = λ behind. (e, tt);
    tokens = sym (append-nil old);
  }

  pub reads_line_end : (old : List Token) (p : Place) → ReadsTokens r old old (spots_from p []) []
  reads_line_end old p = record {
    pieces = spacing (record { byte = 10; place = p }) ∷ [];
    cut = refl;
    are_pieces = λ behind. (refl, tt);
    tokens = sym (append-nil old);
  }

  longest_of : (p : Place) (bs : List ℕ) (n : ℕ) (k : Kind) → BeginsToken r bs n k → (behind : List Spot) → IsLongestToken r (take n bs) (bytes_of (spots_from p (drop n bs) ++ behind))
  longest_of p bs n k t behind = record {
    is_token = subst IsSome (sym t.kind) refl;
    longest = λ more rest e some. t.longest (bytes_of behind) more rest (sym (bytes_of-line_spots p.file p.line p.column (drop n bs) behind) ∙ e) some;
  }

  pub reads_token : (old : List Token) (p : Place) (bs : List ℕ) (n : ℕ) (k : Kind) → BeginsToken r bs n k
      → ReadsTokens r old (old ++ token_at p k (take n bs) ∷ []) (spots_from p bs) (spots_from (moved p n) (drop n bs))
  unfolding text_spots
  reads_token old p bs zero k t = absurd (omega (arith, t.some))
  reads_token old p [] (suc n) k t = absurd (omega (arith, t.within))
  reads_token old p (b ∷ bs) (suc n) k t = record {
    pieces = token (record { byte = b; place = p }) (text_spots p.file p.line (p.column + 1) (take n bs)) ∷ [];
    cut = ap (λ xs. xs ++ spots_from (moved p (suc n)) (drop n bs)) (append-nil (text_spots p.file p.line p.column (b ∷ take n bs))) ∙ line_spots-split p.file p.line p.column (suc n) (b ∷ bs) t.within;
    are_pieces = λ behind. (subst (λ xs. IsLongestToken r (b ∷ xs) (bytes_of (spots_from (moved p (suc n)) (drop n bs) ++ behind))) (sym bytes) (longest_of (moved p (suc n)) (b ∷ bs) (suc n) k t behind), tt);
    tokens = ap (λ ts. old ++ ts) (sym (append-nil _ ∙ (ap (λ xs. token_with (kind_of r (b ∷ xs)) (record { byte = b; place = p }) (b ∷ xs)) bytes ∙ ap (λ o. token_with o (record { byte = b; place = p }) (b ∷ take n bs)) t.kind)));
  }
    where
      bytes : bytes_of (text_spots p.file p.line (p.column + 1) (take n bs)) ≡ take n bs
      bytes = bytes_of-text_spots p.file p.line (p.column + 1) (take n bs)

  pub breaks_here : (p : Place) (bs : List ℕ) → 0 < length bs → is_spacing (slice_index bs 0) ≡ false → BeginsNone r bs → BreaksWithin r (spots_from p bs) p
  breaks_here p [] h e none = absurd (omega arith)
  breaks_here p (b ∷ bs) h e none = record {
    pieces = [];
    spot = record { byte = b; place = p };
    after = line_spots p.file p.line (p.column + 1) bs;
    cut = refl;
    are_pieces = λ behind. tt;
    no_spacing = e;
    no_token = λ behind. subst (λ xs. BeginsNoToken r (b ∷ xs)) (sym (bytes_of-line_spots p.file p.line (p.column + 1) bs behind)) (none (bytes_of behind));
    place = refl;
  }

  -- ---- the whole text

  pub token_list : (s : Selected) (ts : List Token) → ReadsTokens r [] ts (spots_of s.file s.lines) [] → IsTokenList r s (ts ++ end_token s.file s.lines ∷ [])
  token_list s ts a = record {
    pieces = a.pieces;
    cut = sym (append-nil (all_spots a.pieces)) ∙ a.cut;
    are_pieces = a.are_pieces [];
    tokens = ap (λ us. us ++ end_token s.file s.lines ∷ []) a.tokens;
  }

  breaks_at : (s : Selected) (p : Place) → BreaksWithin r (spots_of s.file s.lines) p → BreaksAt r s p
  breaks_at s p b = record {
    pieces = b.pieces;
    spot = b.spot;
    after = b.after;
    cut = b.cut;
    are_pieces = subst (λ xs. ArePieces r b.pieces (b.spot ∷ xs)) (append-nil b.after) (b.are_pieces []);
    no_spacing = b.no_spacing;
    no_token = subst (λ xs. BeginsNoToken r (bytes_of (b.spot ∷ xs))) (append-nil b.after) (b.no_token []);
    place = b.place;
  }

  pub refused_at : (s : Selected) (e : Refusal) → IsBreakWithin r (spots_of s.file s.lines) e → IsBreakOf r s e
  refused_at s (Refused e) h = (h.0, breaks_at s e.place h.1)
  refused_at s Memory h = tt

-- the same, said of an equal revision
pub refused_in : (r q : Revision) → r ≡ q → (s : Selected) (e : Refusal) → IsBreakWithin r (spots_of s.file s.lines) e → IsBreakOf q s e
refused_in r q same s e h = subst (λ x. IsBreakOf x s e) same (refused_at r s e h)

-- ---- lines

-- the spots of the lines from one on
pub spots_of-more : (file : ℕ) (ls : List Line) (i : ℕ) (l : Line) → i < length ls → l ≡ get_or ls i l
    → spots_of file (drop i ls) ≡ line_spots file l.number 1 l.bytes ++ spots_of file (drop (i + 1) ls)
spots_of-more file ls i l h e =
    at_drop_more (spots_of file) ls i l h ∙ ap (λ (x : Line). line_spots file x.number 1 x.bytes ++ spots_of file (drop (i + 1) ls)) (sym e)

pub spots_of-all : (file : ℕ) (ls : List Line) (i : ℕ) → length ls ≤ i → spots_of file (drop i ls) ≡ []
spots_of-all file ls i h = at_drop_all (spots_of file) ls i h

suc_minus : (n : ℕ) → suc (suc n) - 1 ≡ suc (suc n - 1)
suc_minus n = omega arith

pub end_place-last : (file : ℕ) (ls : List Line) (l : Line) → 0 < length ls → l ≡ get_or ls (length ls - 1) l → end_place file ls ≡ place_at file l.number (length l.bytes + 1)
end_place-last file [] l h e = absurd (omega arith)
end_place-last file (k ∷ []) l h e = ap (λ (x : Line). place_at file x.number (length x.bytes + 1)) (sym e)
end_place-last file (k ∷ m ∷ ls) l h e = end_place-last file (m ∷ ls) l (omega arith) (e ∙ ap (λ i. get_or (k ∷ m ∷ ls) i l) (suc_minus (length ls)))

-- ---- results

ok_is : {T F : Type 0} (x y : T) → ◌≡◌ {A = Result T F} (Ok x) (Ok y) → x ≡ y
ok_is x y e = cc

not_err : {T F : Type 0} (Q : F → Type 0) (s : Result T F) (x : T) → s ≡ Ok x → IsErrAnd s Q → ⊥
not_err Q (Ok y) x e h = h
not_err Q (Err y) x e h = cc

-- what holds of a result whose error is changed
pub at_ok : {T E F : Type 0} (P : T → Type 0) (Q : E → F → Type 0) (r : Result T E) (s : Result T F) (x : T)
    → MatchResult r (λ y. s ≡ Ok y) (λ e. IsErrAnd s (Q e)) → s ≡ Ok x → IfOk r P → P x
at_ok P Q (Ok y) s x e f h = let g : y ≡ x = ok_is y x (sym e ∙ f) in subst P g h
at_ok P Q (Err e) s x k f h = absurd (not_err (Q e) s x f k)
