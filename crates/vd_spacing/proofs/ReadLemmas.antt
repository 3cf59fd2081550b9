-- Laid out tokens are read as these tokens.
use Rattle.std.proofs.Common.{◌≡◌, ℕ, zero, suc, ◌+◌, ◌*◌, ◌<◌, Bool, true, false, not, ◌&&◌, List, [], ◌∷◌, ◌++◌, map, length, replicate, Option, Some, None, refl, sym, ap, ◌∙◌, subst, arith}
use Rattle.std.proofs.lemmas.Bool.{and_parts}
use Rattle.std.proofs.lemmas.List.{map-append, drop_at}
use Rattle.vd_bytes.specs.declared.places.Place.{Place}
use Rattle.vd_trees.specs.declared.revision.Revision.{Revision}
use Rattle.vd_directives.specs.declared.selected.Line.{Line}
use Rattle.vd_directives.specs.Lines.{lines_of, numbered, plain_of, place_at}
use Rattle.vd_tokens.specs.declared.kinds.Kind.{Kind}
use Rattle.vd_tokens.specs.Lexemes.{Lexeme}
use Rattle.vd_tokens.specs.Spellings.{spelling_of}
use Rattle.vd_lex.specs.Pieces.{reads, piece_at, need_spacing, is_number}
use Rattle.vd_lex.specs.Lexis.{Position, goes, ends, moved, at_piece, step_at, Reads, here, further, start, end_token}
use Rattle.vd_lex.specs.Scans.{position}
use Rattle.vd_lex.specs.Spelled.{fits_apostrophe}
use Rattle.vd_lex.proofs.SpelledLemmas.{state, any_whole}
use Rattle.vd_spacing.specs.Spacing.{is_mark, Spacing, touching, spaced, new_line, Laid, laid_behind, laid_bytes}
use Rattle.vd_spacing.specs.ReadingBack.{is_apart, AreLaid, placeless, token_of, placeless_end, ReadsBack, LayoutsReadBack}
use Rattle.vd_spacing.proofs.GraphicLemmas.{spelling_graphic}
use Rattle.vd_spacing.proofs.LineLemmas.{line_rest, lines_rest, lines_front, lines_behind}
use Rattle.vd_spacing.proofs.NeighbourLemmas.{need_none, rest_follows}

abbrev lexeme_at : Place → Kind → List ℕ → Lexeme
lexeme_at p k text = record { kind = k; text = text; place = p }

module _ (r : Revision) where
  -- a text is read from a position to its end, and gives these tokens, up to places
  record IsReadFrom (a : Position) (ts : List Lexeme) : Type 0 where
    tokens : List Lexeme
    last : Position
    read : Reads r a tokens last
    ended : step_at r last ≡ ends
    same : map placeless tokens ≡ ts

  read_on : (a b : Position) (ts : List Lexeme) → step_at r a ≡ goes [] b → IsReadFrom b ts → IsReadFrom a ts
  read_on a b ts e h = record { tokens = h.tokens; last = h.last; read = further a b h.last [] h.tokens e h.read; ended = h.ended; same = h.same }

  read_token : (a b : Position) (t : Lexeme) (ts : List Lexeme) → step_at r a ≡ goes (t ∷ []) b → IsReadFrom b ts → IsReadFrom a (placeless t ∷ ts)
  read_token a b t ts e h = record { tokens = t ∷ h.tokens; last = h.last; read = further a b h.last (t ∷ []) h.tokens e h.read; ended = h.ended; same = ap (λ xs. placeless t ∷ xs) h.same }

  module _ (last : Option Kind) (near : Bool) (p : Place) where
    -- ---- one step

    space_step : (bs : List ℕ) (ls : List Line) → step_at r (position (state last near) p (32 ∷ bs) ls) ≡ goes [] (position (state last false) (moved p 1) bs ls)
    space_step bs ls = refl

    line_step : (n : ℕ) (l : List ℕ) (ls : List Line) → step_at r (position (state last near) p [] (record { number = n; bytes = l } ∷ ls)) ≡ goes [] (position (state last false) (place_at p.file n 1) l ls)
    line_step n l ls = refl

    token_step : (bytes after : List ℕ) (k : Kind) (text : List ℕ) (ls : List Line) → (0 < length bytes) × (piece_at r (state last near) p (bytes ++ after) ≡ reads (length bytes) k text)
        → step_at r (position (state last near) p (bytes ++ after) ls) ≡ goes (lexeme_at p k text ∷ []) (position (state (Some k) true) (moved p (length bytes)) after ls)
    token_step [] after k text ls h = absurd (omega (arith, h.0))
    token_step (b ∷ bs) after k text ls h =
        ap (at_piece (position (state last near) p (b ∷ (bs ++ after)) ls)) h.1
        ∙ ap (λ rest. goes (lexeme_at p k text ∷ []) (position (state (Some k) true) (moved p (length (b ∷ bs))) rest ls)) (drop_at (b ∷ bs) after (length (b ∷ bs)) refl)

  -- spaces in front
  read_spaces : (n : ℕ) (last : Option Kind) (p : Place) (bs : List ℕ) (ls : List Line) (ts : List Lexeme) → ((q : Place) → IsReadFrom (position (state last false) q bs ls) ts)
      → IsReadFrom (position (state last false) p (replicate n 32 ++ bs) ls) ts
  read_spaces zero last p bs ls ts h = h p
  read_spaces (suc n) last p bs ls ts h =
      let rest = replicate n 32 ++ bs in
      read_on (position (state last false) p (32 ∷ rest) ls) (position (state last false) (moved p 1) rest ls) ts (space_step last false p rest ls) (read_spaces n last (moved p 1) bs ls ts h)

  -- ---- tokens

  -- what stands behind a token of this kind is read
  abbrev IsReadBehind : Kind → List Laid → Type 0
  IsReadBehind last ts = (p : Place) (n : ℕ) → IsReadFrom (position (state (Some last) true) p (line_rest ts) (numbered n (lines_rest ts))) (map token_of ts)

  read_here : (last : Option Kind) (near : Bool) (t : Laid) (ts : List Laid) (p : Place) (n : ℕ) → (near && need_spacing last (Some t.kind)) ≡ false → AreLaid r last (t ∷ ts) → IsReadBehind t.kind ts
      → IsReadFrom (position (state last near) p (spelling_of t.kind t.text ++ line_rest ts) (numbered n (lines_rest ts))) (token_of t ∷ map token_of ts)
  read_here last near t ts p n far h behind =
      let spelled = spelling_of t.kind t.text in
      let rest = line_rest ts in
      let ls = numbered n (lines_rest ts) in
      let q = moved p (length spelled) in
      let fits = (and_parts (fits_apostrophe last t.kind) (not (is_number last && is_mark 8 t.kind)) h.1).0 in
      let whole = any_whole r last near rest t.kind t.text h.0.0 h.0.1 (rest_follows r t.kind ts h.3) fits far p in
      read_token (position (state last near) p (spelled ++ rest) ls) (position (state (Some t.kind) true) q rest ls) (lexeme_at p t.kind t.text) (map token_of ts)
      (token_step last near p spelled rest t.kind t.text ls whole) (behind q n)

  read_spaced : (last : Kind) (t : Laid) (ts : List Laid) (s : Spacing) → is_apart (Some last) s t.kind ≡ true → AreLaid r (Some last) (t ∷ ts) → IsReadBehind t.kind ts → IsReadBehind last (record t { spacing = s } ∷ ts)
  read_spaced last t ts touching e h behind p n = read_here (Some last) true t ts p n (need_none last t.kind e) h behind
  read_spaced last t ts spaced e h behind p n =
      let rest = spelling_of t.kind t.text ++ line_rest ts in
      let ls = numbered n (lines_rest ts) in
      read_on (position (state (Some last) true) p (32 ∷ rest) ls) (position (state (Some last) false) (moved p 1) rest ls) (token_of t ∷ map token_of ts) (space_step (Some last) true p rest ls)
      (read_here (Some last) false t ts (moved p 1) n refl h behind)
  read_spaced last t ts (new_line level) e h behind p n =
      let rest = spelling_of t.kind t.text ++ line_rest ts in
      let line = replicate (2 * level) 32 ++ rest in
      let ls = numbered (n + 1) (lines_rest ts) in
      let q = place_at p.file n 1 in
      read_on (position (state (Some last) true) p [] (record { number = n; bytes = line } ∷ ls)) (position (state (Some last) false) q line ls) (token_of t ∷ map token_of ts) (line_step (Some last) true p n line ls)
      (read_spaces (2 * level) (Some last) q rest ls (token_of t ∷ map token_of ts) (λ o. read_here (Some last) false t ts o (n + 1) refl h behind))

  read_behind : (ts : List Laid) (last : Kind) → AreLaid r (Some last) ts → IsReadBehind last ts
  read_behind [] last h p n = let a = position (state (Some last) true) p [] [] in record { tokens = []; last = a; read = here a; ended = refl; same = refl }
  read_behind (t ∷ ts) last h p n = read_spaced last t ts t.spacing h.2 h (read_behind ts t.kind h.3) p n

  -- ---- the file

  module _ (file : ℕ) where
    whole_file : (bytes : List ℕ) (ts : List Lexeme) → IsReadFrom (start (plain_of file bytes)) ts → ReadsBack r file bytes ts
    whole_file bytes ts h =
        let end = end_token (plain_of file bytes) in
        record {
          read = h.tokens ++ end ∷ [];
          is_list = record { before = h.tokens; last = h.last; read = h.read; ended = h.ended; tokens = refl };
          same = map-append placeless h.tokens (end ∷ []) ∙ ap (λ xs. xs ++ placeless_end ∷ []) h.same;
        }

    first_token : (t : Laid) (ts : List Laid) → AreLaid r None (t ∷ ts) → IsReadFrom (start (plain_of file (laid_bytes (t ∷ ts)))) (map token_of (t ∷ ts))
    first_token t ts h =
        let line = spelling_of t.kind t.text ++ line_rest ts in
        let p = place_at file 1 1 in
        let lines : lines_of (laid_bytes (t ∷ ts)) ≡ line ∷ lines_rest ts =
        lines_front (spelling_of t.kind t.text) (laid_behind ts) (line_rest ts) (lines_rest ts) (spelling_graphic r t.kind t.text h.0.0) (lines_behind r ts (Some t.kind) h.3) in
        subst (λ ls. IsReadFrom (position (state None false) p [] (numbered 1 ls)) (map token_of (t ∷ ts))) (sym lines)
        (read_on (position (state None false) p [] (numbered 1 (line ∷ lines_rest ts))) (position (state None false) p line (numbered 2 (lines_rest ts))) (map token_of (t ∷ ts))
        (line_step None false p 1 line (numbered 2 (lines_rest ts))) (read_here None false t ts p 2 refl h (read_behind ts t.kind h.3)))

pub layouts_read_back : LayoutsReadBack
layouts_read_back r file [] h = let a = start (plain_of file []) in whole_file r file [] [] (record { tokens = []; last = a; read = here a; ended = refl; same = refl })
layouts_read_back r file (t ∷ ts) h = whole_file r file (laid_bytes (t ∷ ts)) (map token_of (t ∷ ts)) (first_token r file t ts h)
