-- What is read of a text, piece by piece and line by line.
use Rattle.std.proofs.Common.{◌≡◌, ℕ, true, false, eqb, suc, ◌+◌, ◌-◌, ◌<◌, ◌≤◌, List, [], ◌∷◌, ◌++◌, length, drop, get_or, Some, None, Result, Ok, Err, is_ok, OnOk, IfOk, IfErr, refl, sym, ap, ◌∙◌, subst, arith, append_assoc}
use Rattle.std.proofs.lemmas.List.{append-nil, drop_more, drop_all}
use Rattle.vd_bytes.specs.declared.answers.Refusal.{Refusal}
use Rattle.vd_bytes.specs.declared.answers.Refusal.TheVariants.{Refused, Memory}
use Rattle.vd_bytes.specs.declared.places.Place.{Place}
use Rattle.vd_trees.specs.declared.revision.Revision.{Revision}
use Rattle.vd_directives.specs.declared.selected.Line.{Line}
use Rattle.vd_directives.specs.declared.selected.Selected.{Selected}
use Rattle.vd_directives.specs.Lines.{place_at, end_place}
use Rattle.vd_tokens.specs.declared.kinds.Kind.TheVariants.{End}
use Rattle.vd_tokens.specs.Lexemes.{Lexeme}
use Rattle.vd_lex.specs.declared.states.State.{State}
use Rattle.vd_lex.specs.Pieces.{Piece, passes, reads, refuses, piece_at, past_line, first_state}
use Rattle.vd_lex.specs.Lexis.{Position, goes, breaks, moved, at_piece, at_end, step_at, Reads, here, further, start, end_token, IsTokenList, BreaksAt, IsBreakOf}
use Rattle.vd_lex.specs.Scans.{IsPieceRead, IsRefusedBy, position, ReadsTokens, IsLineRead, IsLineRefused, IsTextRead, IsUnended}

module _ (r : Revision) where
  pub reads_on : (a b c : Position) (ts us : List Lexeme) → Reads r a ts b → Reads r b us c → Reads r a (ts ++ us) c
  reads_on a b c ts us (here x) k = k
  reads_on a b c ts us (further x y z vs ws e h) k = subst (λ xs. Reads r a xs c) (sym (append_assoc vs ws us)) (further a y c vs (ws ++ us) e (reads_on y b c ws us h k))

  pub reads_none : (old : List Lexeme) (st : State) (p : Place) (bs : List ℕ) → ReadsTokens r old old st p bs st p bs
  reads_none old st p bs = record { tokens = []; read = λ ls. here (position st p bs ls); added = sym (append-nil old) }

  module _ (old mid new : List Lexeme) (st : State) (p : Place) (bs : List ℕ) (st' : State) (q : Place) (cs : List ℕ) (st'' : State) (o : Place) (ds : List ℕ) where
    pub reads_then : ReadsTokens r old mid st p bs st' q cs → ReadsTokens r mid new st' q cs st'' o ds → ReadsTokens r old new st p bs st'' o ds
    reads_then a b = record {
      tokens = a.tokens ++ b.tokens;
      read = λ ls. reads_on (position st p bs ls) (position st' q cs ls) (position st'' o ds ls) a.tokens b.tokens (a.read ls) (b.read ls);
      added = b.added ∙ (ap (λ ts. ts ++ b.tokens) a.added ∙ append_assoc old a.tokens b.tokens);
    }

  -- ---- one piece

  step-piece : (st : State) (p : Place) (bs : List ℕ) (ls : List Line) → 0 < length bs → step_at r (position st p bs ls) ≡ at_piece (position st p bs ls) (piece_at r st p bs)
  step-piece st p [] ls h = absurd (omega arith)
  step-piece st p (b ∷ bs) ls h = refl

  module _ (st : State) (p : Place) (bs : List ℕ) (some : 0 < length bs) where
    step_is : (pc : Piece) (ls : List Line) → piece_at r st p bs ≡ pc → step_at r (position st p bs ls) ≡ at_piece (position st p bs ls) pc
    step_is pc ls e = step-piece st p bs ls some ∙ ap (at_piece (position st p bs ls)) e

    piece_is : (pc : Piece) (n : ℕ) (new : State) (old_ts new_ts : List Lexeme) → piece_at r st p bs ≡ pc → IsPieceRead pc p n new old_ts new_ts → ReadsTokens r old_ts new_ts st p bs new (moved p n) (drop n bs)
    piece_is (passes m next) n new old_ts new_ts e h = record {
      tokens = [];
      read = λ ls. further (position st p bs ls) (position new (moved p n) (drop n bs) ls) (position new (moved p n) (drop n bs) ls) [] []
          (step_is (passes n new) ls (e ∙ ap (λ x. x) (same_passes (sym h.0) (sym h.1)))) (here (position new (moved p n) (drop n bs) ls));
      added = h.2 ∙ sym (append-nil old_ts);
    }
      where
        same_passes : m ≡ n → next ≡ new → passes m next ≡ passes n new
        same_passes x y = cc
    piece_is (reads m k text) n new old_ts new_ts e h = record {
      tokens = record { kind = k; text = text; place = p } ∷ [];
      read = λ ls. further (position st p bs ls) (position new (moved p n) (drop n bs) ls) (position new (moved p n) (drop n bs) ls) (record { kind = k; text = text; place = p } ∷ []) []
          (step_is (reads n k text) ls (e ∙ ap (λ x. reads x k text) (sym h.0)) ∙ ap (λ s. goes (record { kind = k; text = text; place = p } ∷ []) (position s (moved p n) (drop n bs) ls)) (sym h.1)) (here (position new (moved p n) (drop n bs) ls));
      added = h.2;
    }
    piece_is (refuses rule) n new old_ts new_ts e h = absurd h

    pub reads_piece : (n : ℕ) (new : State) (old_ts new_ts : List Lexeme) → IsPieceRead (piece_at r st p bs) p n new old_ts new_ts → ReadsTokens r old_ts new_ts st p bs new (moved p n) (drop n bs)
    reads_piece n new old_ts new_ts h = piece_is (piece_at r st p bs) n new old_ts new_ts refl h

    pub breaks_piece : (rule : ℕ) (at : Place) → piece_at r st p bs ≡ refuses rule → at ≡ p → (ls : List Line) → step_at r (position st p bs ls) ≡ breaks rule at
    breaks_piece rule at e same ls = step_is (refuses rule) ls e ∙ ap (breaks rule) (sym same)

  -- ---- lines

  pub line_refused : (file : ℕ) (l : Line) (old new : List Lexeme) (st st' : State) (q : Place) (cs : List ℕ) (e : Refusal) → 0 < length cs
      → ReadsTokens r old new st (place_at file l.number 1) l.bytes st' q cs → IsRefusedBy (piece_at r st' q cs) q e → IsLineRefused r file l st e
  line_refused file l old new st st' q cs (Refused e) some a h =
      record { last = st'; place = q; rest = cs; tokens = a.tokens; read = a.read; broken = breaks_piece st' q cs some e.rule e.place h.0 h.1 }
  line_refused file l old new st st' q cs Memory some a h = tt

  pub line_read : (file : ℕ) (l : Line) (old new : List Lexeme) (st st' : State) (q : Place) (cs : List ℕ) → q.file ≡ file → cs ≡ []
      → ReadsTokens r old new st (place_at file l.number 1) l.bytes st' q cs → IsLineRead r file l old new st st'
  line_read file l old new st st' q cs same none a =
      record { place = q; same_file = same; read = subst (λ xs. ReadsTokens r old new st (place_at file l.number 1) l.bytes st' q xs) none a }

  module _ (s : Selected) where
    pub text_start : IsTextRead r s [] first_state s.lines
    text_start = record { place = place_at s.file 1 1; same_file = refl; read = here (start s) }

    enters_line : (st : State) (q : Place) (l : Line) (ls : List Line) → q.file ≡ s.file → step_at r (position st q [] (l ∷ ls)) ≡ goes [] (position (past_line st) (place_at s.file l.number 1) l.bytes ls)
    enters_line st q l ls same = ap (λ f. goes [] (position (past_line st) (place_at f l.number 1) l.bytes ls)) same

    to_line : (ts : List Lexeme) (st : State) (l : Line) (ls : List Line) → IsTextRead r s ts st (l ∷ ls) → Reads r (start s) ts (position (past_line st) (place_at s.file l.number 1) l.bytes ls)
    to_line ts st l ls a =
        let next = position (past_line st) (place_at s.file l.number 1) l.bytes ls in
        subst (λ xs. Reads r (start s) xs next) (append-nil ts)
        (reads_on (start s) (position st a.place [] (l ∷ ls)) next ts [] a.read (further (position st a.place [] (l ∷ ls)) next next [] [] (enters_line st a.place l ls a.same_file) (here next)))

    pub text_line : (ts us : List Lexeme) (st st' : State) (l : Line) (ls : List Line) → IsTextRead r s ts st (l ∷ ls) → IsLineRead r s.file l ts us (past_line st) st' → IsTextRead r s us st' ls
    text_line ts us st st' l ls a b = record {
      place = b.place;
      same_file = b.same_file;
      read = subst (λ xs. Reads r (start s) xs (position st' b.place [] ls)) (sym b.read.added)
          (reads_on (start s) (position (past_line st) (place_at s.file l.number 1) l.bytes ls) (position st' b.place [] ls) ts b.read.tokens (to_line ts st l ls a) (b.read.read ls));
    }

    pub text_refused : (ts : List Lexeme) (st : State) (l : Line) (ls : List Line) (e : Refusal) → IsTextRead r s ts st (l ∷ ls) → IsLineRefused r s.file l (past_line st) e → IsBreakOf r s e
    text_refused ts st l ls (Refused e) a b = record {
      before = ts ++ b.tokens;
      last = position b.last b.place b.rest ls;
      read = reads_on (start s) (position (past_line st) (place_at s.file l.number 1) l.bytes ls) (position b.last b.place b.rest ls) ts b.tokens (to_line ts st l ls a) (b.read ls);
      broken = b.broken ls;
    }
    text_refused ts st l ls Memory a b = tt

    pub text_ended : (ts : List Lexeme) (st : State) → st.comment ≡ None → IsTextRead r s ts st [] → IsTokenList r s (ts ++ end_token s ∷ [])
    text_ended ts st none a = record { before = ts; last = position st a.place [] []; read = a.read; ended = ap at_end none; tokens = refl }

    text_broken : (ts : List Lexeme) (st : State) (p : Place) → st.comment ≡ Some p → IsTextRead r s ts st [] → BreaksAt r s 102 p
    text_broken ts st p some a = record { before = ts; last = position st a.place [] []; read = a.read; broken = ap at_end some }

    pub text_unended : (ts : List Lexeme) (st : State) (e : Refusal) → IsTextRead r s ts st [] → IsUnended st e → IsBreakOf r s e
    text_unended ts st (Refused e) a h = subst (λ rule. BreaksAt r s rule e.place) (sym h.0) (text_broken ts st e.place h.1 a)
    text_unended ts st Memory a h = tt

-- the lines from one on
pub lines_more : (r : Revision) (s : Selected) (ts : List Lexeme) (st : State) (ls : List Line) (i : ℕ) (l : Line) → i < length ls → l ≡ get_or ls i l
    → IsTextRead r s ts st (drop i ls) → IsTextRead r s ts st (l ∷ drop (i + 1) ls)
lines_more r s ts st ls i l h e a = subst (IsTextRead r s ts st) (drop_more ls i l h ∙ ap (λ x. x ∷ drop (i + 1) ls) (sym e)) a

pub lines_all : (r : Revision) (s : Selected) (ts : List Lexeme) (st : State) (ls : List Line) (i : ℕ) → length ls ≤ i → IsTextRead r s ts st (drop i ls) → IsTextRead r s ts st []
lines_all r s ts st ls i h a = subst (IsTextRead r s ts st) (drop_all i ls h) a

-- ---- the last line

suc_minus : (n : ℕ) → suc (suc n) - 1 ≡ suc (suc n - 1)
suc_minus n = omega arith

pub end_place-last : (file : ℕ) (ls : List Line) (l : Line) → 0 < length ls → l ≡ get_or ls (length ls - 1) l → end_place file ls ≡ place_at file l.number (length l.bytes + 1)
end_place-last file [] l h e = absurd (omega arith)
end_place-last file (k ∷ []) l h e = ap (λ (x : Line). place_at file x.number (length x.bytes + 1)) (sym e)
end_place-last file (k ∷ m ∷ ls) l h e = end_place-last file (m ∷ ls) l (omega arith) (e ∙ ap (λ i. get_or (k ∷ m ∷ ls) i l) (suc_minus (length ls)))

pub on_ok : {T E P : Type 0} (r : Result T E) → is_ok r ≡ true → OnOk r P → P
on_ok (Ok x) e h = h
on_ok (Err x) e h = cc

pub some_from : (bs : List ℕ) → eqb (length bs) 0 ≡ false → 0 < length bs
some_from [] e = cc
some_from (b ∷ bs) e = omega arith

-- ---- the end

module _ (r : Revision) (s : Selected) (ts : List Lexeme) (st : State) where
  pub finished : (p : Place) (result : Result (List Lexeme) Refusal) → p ≡ end_place s.file s.lines → IsTextRead r s ts st []
      → IfOk result (λ us. (st.comment ≡ None) × (us ≡ ts ++ record { kind = End; text = []; place = p } ∷ [])) → IfOk result (λ us. IsTokenList r s us)
  finished p (Ok us) e a h = subst (IsTokenList r s) (sym (h.1 ∙ ap (λ q. ts ++ record { kind = End; text = []; place = q } ∷ []) e)) (text_ended r s ts st h.0 a)
  finished p (Err x) e a h = tt

  pub unfinished : (result : Result (List Lexeme) Refusal) → IsTextRead r s ts st [] → IfErr result (IsUnended st) → IfErr result (IsBreakOf r s)
  unfinished (Ok us) a h = tt
  unfinished (Err e) a h = text_unended r s ts st e a h
