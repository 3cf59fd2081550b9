-- Spots whose bytes are spacing and tokens are cut into these.
use Rattle.std.proofs.Common.{◌≡◌, ◌≢◌, ℕ, true, List, [], ◌∷◌, ◌++◌, length, take, drop, Some, None, IsSome, refl, sym, ap, ◌∙◌, subst, take-append-drop}
use Rattle.std.specs.List.{AllByRecursion}
use Rattle.std.proofs.lemmas.List.{append-nil, map-append, take-map, drop-map, take_at, drop_at}
use Rattle.vd_trees.specs.declared.revision.Revision.{Revision}
use Rattle.vd_first_lex.specs.declared.tokens.Token.{Token}
use Rattle.vd_first_lex.specs.Lexis.{Spot, bytes_of, is_spacing, kind_of, IsLongestToken, text_if_name, token_with, Piece, spacing, token, all_spots, ArePieces, piece_tokens, all_tokens}
use Rattle.vd_first_print.specs.ReadingBack.{placeless, all_placeless}

-- the byte is spacing
abbrev pub IsSpacing : ℕ → Type 0
IsSpacing b = is_spacing b ≡ true

heads : (b c : ℕ) (bs cs : List ℕ) → b ∷ bs ≡ c ∷ cs → b ≡ c
heads b c bs cs e = cc

tails : (b c : ℕ) (bs cs : List ℕ) → b ∷ bs ≡ c ∷ cs → bs ≡ cs
tails b c bs cs e = cc

nothing_first : (b : ℕ) (bs : List ℕ) → [] ≡ b ∷ bs → ⊥
nothing_first b bs e = cc

-- where spots have some bytes and others behind them, they are in two parts
front_bytes : (front rest : List ℕ) (ss : List Spot) → bytes_of ss ≡ front ++ rest → bytes_of (take (length front) ss) ≡ front
front_bytes front rest ss e = sym (take-map (λ (s : Spot). s.byte) (length front) ss) ∙ (ap (take (length front)) e ∙ take_at front rest (length front) refl)

rest_bytes : (front rest : List ℕ) (ss : List Spot) → bytes_of ss ≡ front ++ rest → bytes_of (drop (length front) ss) ≡ rest
rest_bytes front rest ss e = sym (drop-map (λ (s : Spot). s.byte) (length front) ss) ∙ (ap (drop (length front)) e ∙ drop_at front rest (length front) refl)

module _ (r : Revision) where
  -- the spots are cut into pieces, whose tokens are these up to places
  pub record IsCut (ss : List Spot) (ts : List Token) : Type 0 where
    pub pieces : List Piece
    pub cut : all_spots pieces ≡ ss
    pub are_pieces : ArePieces r pieces []
    pub same : all_placeless (all_tokens r pieces) ≡ all_placeless ts

  -- whatever spots have these bytes are cut into these tokens
  abbrev pub IsRead : List ℕ → List Token → Type 0
  IsRead bytes ts = (ss : List Spot) → bytes_of ss ≡ bytes → IsCut ss ts

  pub read_nothing : IsRead [] []
  read_nothing [] e = record { pieces = []; cut = refl; are_pieces = tt; same = refl }
  read_nothing (s ∷ ss) e = absurd (nothing_first s.byte (bytes_of ss) (sym e))

  cut_spacing : (s : Spot) (ss : List Spot) (ts : List Token) → IsSpacing s.byte → IsCut ss ts → IsCut (s ∷ ss) ts
  cut_spacing s ss ts is h = record {
    pieces = spacing s ∷ h.pieces;
    cut = ap (λ xs. s ∷ xs) h.cut;
    are_pieces = (is, h.are_pieces);
    same = h.same;
  }

  read_byte : (b : ℕ) (rest : List ℕ) (ts : List Token) → IsSpacing b → IsRead rest ts → IsRead (b ∷ rest) ts
  read_byte b rest ts is h [] e = absurd (nothing_first b rest e)
  read_byte b rest ts is h (s ∷ ss) e = cut_spacing s ss ts (subst IsSpacing (sym (heads s.byte b (bytes_of ss) rest e)) is) (h ss (tails s.byte b (bytes_of ss) rest e))

  -- spacing in front
  pub read_spacing : (front rest : List ℕ) (ts : List Token) → AllByRecursion IsSpacing front → IsRead rest ts → IsRead (front ++ rest) ts
  read_spacing [] rest ts is h = h
  read_spacing (b ∷ front) rest ts is h = read_byte b (front ++ rest) ts is.0 (read_spacing front rest ts is.1 h)

  -- the text is this token's, before the bytes behind it
  pub record BeginsWith (t : Token) (b : ℕ) (bs after : List ℕ) : Type 0 where
    pub kind : kind_of r (b ∷ bs) ≡ Some t.kind
    pub text : text_if_name t.kind (b ∷ bs) ≡ t.text
    pub longest : (more rest : List ℕ) → after ≡ more ++ rest → more ≢ [] → kind_of r ((b ∷ bs) ++ more) ≡ None

  module _ (t : Token) (b : ℕ) (bs after : List ℕ) (h : BeginsWith t b bs after) where
    longest_there : (us : List Spot) → bytes_of us ≡ after → IsLongestToken r (b ∷ bs) (bytes_of us)
    longest_there us e = record {
      is_token = subst IsSome (sym h.kind) refl;
      longest = λ more rest is some. h.longest more rest (sym e ∙ is) some;
    }

    token_there : (s : Spot) → all_placeless (token_with (kind_of r (b ∷ bs)) s (b ∷ bs)) ≡ placeless t ∷ []
    token_there s = rw (h.kind, h.text) refl

    cut_token : (s : Spot) (us vs : List Spot) (ts : List Token) → bytes_of (s ∷ us) ≡ b ∷ bs → bytes_of vs ≡ after → IsCut vs ts → IsCut (s ∷ us ++ vs) (t ∷ ts)
    cut_token s us vs ts e f c = record {
      pieces = token s us ∷ c.pieces;
      cut = ap (λ xs. s ∷ us ++ xs) c.cut;
      are_pieces = (
        subst (λ xs. IsLongestToken r xs (bytes_of (all_spots c.pieces ++ []))) (sym e)
            (longest_there (all_spots c.pieces ++ []) (ap bytes_of (append-nil (all_spots c.pieces) ∙ c.cut) ∙ f)),
        c.are_pieces,
      );
      same =
          map-append placeless (piece_tokens r (token s us)) (all_tokens r c.pieces)
          ∙ (ap (λ xs. xs ++ all_placeless (all_tokens r c.pieces)) (ap (λ text. all_placeless (token_with (kind_of r text) s text)) e ∙ token_there s)
          ∙ ap (λ xs. placeless t ∷ xs) c.same);
    }

    -- a token in front
    pub read_token : (ts : List Token) → IsRead after ts → IsRead (b ∷ bs ++ after) (t ∷ ts)
    read_token ts c [] e = absurd (nothing_first b (bs ++ after) e)
    read_token ts c (s ∷ ss) e =
        let behind = tails s.byte b (bytes_of ss) (bs ++ after) e in
        let n = length bs in
        subst (λ xs. IsCut (s ∷ xs) (t ∷ ts)) (take-append-drop n ss)
        (cut_token s (take n ss) (drop n ss) ts
        (ap (λ x. x ∷ bytes_of (take n ss)) (heads s.byte b (bytes_of ss) (bs ++ after) e) ∙ ap (λ xs. b ∷ xs) (front_bytes bs after ss behind))
        (rest_bytes bs after ss behind)
        (c (drop n ss) (rest_bytes bs after ss behind)))
