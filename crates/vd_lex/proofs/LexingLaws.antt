-- A text has one lexing, and just one.
use Rattle.std.proofs.Common.{◌≡◌, ℕ, zero, suc, ◌+◌, ◌<◌, ◌⊎◌, inl, inr, List, [], ◌∷◌, ◌++◌, length, Option, Some, None, refl, sym, ap, ◌∙◌, subst, arith}
use Rattle.std.proofs.lemmas.List.{length-drop}
use Rattle.vd_bytes.specs.declared.places.Place.{Place}
use Rattle.vd_trees.specs.declared.revision.Revision.{Revision}
use Rattle.vd_directives.specs.declared.selected.Line.{Line}
use Rattle.vd_directives.specs.declared.selected.Selected.{Selected}
use Rattle.vd_tokens.specs.Lexemes.{Lexeme}
use Rattle.vd_lex.specs.declared.states.State.{State}
use Rattle.vd_lex.specs.Pieces.{Piece, passes, reads, refuses, piece_at}
use Rattle.vd_lex.specs.Lexis.{Position, Step, goes, breaks, ends, at_piece, at_end, at_line_end, step_at, step_by, Reads, here, further, start, end_token, IsTokenList, BreaksAt, Lexing, lexed, refused, IsLexing, HasOneLexing, HasSomeLexing}
use Rattle.vd_lex.proofs.SizeLemmas.{PieceSome, piece_some}

module _ (r : Revision) where
  -- no step goes on from there
  abbrev Stops : Position → Type 0
  Stops a = (ts : List Lexeme) (b : Position) → step_at r a ≡ goes ts b → ⊥

  same_tokens : (ts us : List Lexeme) (a b : Position) → goes ts a ≡ goes us b → ts ≡ us
  same_tokens ts us a b e = cc

  same_position : (ts us : List Lexeme) (a b : Position) → goes ts a ≡ goes us b → a ≡ b
  same_position ts us a b e = cc

  -- two readings from one position to where none goes on are one
  same_end : (a b c : Position) (ts us : List Lexeme) → Reads r a ts b → Reads r a us c → Stops b → Stops c → (ts ≡ us) × (b ≡ c)
  same_end a b c ts us (here x) (here y) h k = (refl, refl)
  same_end a b c ts us (here x) (further y z w vs ws e m) h k = absurd (h vs z e)
  same_end a b c ts us (further y z w vs ws e m) (here x) h k = absurd (k vs z e)
  same_end a b c ts us (further x y z vs ws e m) (further x' y' z' vs' ws' e' m') h k =
      let f = sym e ∙ e' in
      let rest = same_end y z z' ws ws' m (subst (λ u. Reads r u ws' z') (sym (same_position vs vs' y y' f)) m') h k in
      (ap (λ xs. xs ++ ws) (same_tokens vs vs' y y' f) ∙ ap (λ xs. vs' ++ xs) rest.0, rest.1)

  ends_stops : (a : Position) → step_at r a ≡ ends → Stops a
  ends_stops a e ts b f = none (sym e ∙ f)
    where
      none : ends ≡ goes ts b → ⊥
      none x = cc

  breaks_stops : (a : Position) (rule : ℕ) (p : Place) → step_at r a ≡ breaks rule p → Stops a
  breaks_stops a rule p e ts b f = none (sym e ∙ f)
    where
      none : breaks rule p ≡ goes ts b → ⊥
      none x = cc

  ends_not_breaks : (rule : ℕ) (p : Place) → ends ≡ breaks rule p → ⊥
  ends_not_breaks rule p e = cc

  same_rule : (m n : ℕ) (p q : Place) → breaks m p ≡ breaks n q → m ≡ n
  same_rule m n p q e = cc

  same_place : (m n : ℕ) (p q : Place) → breaks m p ≡ breaks n q → p ≡ q
  same_place m n p q e = cc

  module _ (s : Selected) where
    one_token_list : (ts us : List Lexeme) → IsTokenList r s ts → IsTokenList r s us → ts ≡ us
    one_token_list ts us h k =
        let same = same_end (start s) h.last k.last h.before k.before h.read k.read (ends_stops h.last h.ended) (ends_stops k.last k.ended) in
        h.tokens ∙ (ap (λ vs. vs ++ end_token s ∷ []) same.0 ∙ sym k.tokens)

    not_both : (ts : List Lexeme) (rule : ℕ) (p : Place) → IsTokenList r s ts → BreaksAt r s rule p → ⊥
    not_both ts rule p h k =
        let same = same_end (start s) h.last k.last h.before k.before h.read k.read (ends_stops h.last h.ended) (breaks_stops k.last rule p k.broken) in
        ends_not_breaks rule p (sym h.ended ∙ (ap (step_at r) same.1 ∙ k.broken))

    both_break : (m n : ℕ) (p q : Place) → BreaksAt r s m p → BreaksAt r s n q → breaks m p ≡ breaks n q
    both_break m n p q h k =
        let same = same_end (start s) h.last k.last h.before k.before h.read k.read (breaks_stops h.last m p h.broken) (breaks_stops k.last n q k.broken) in
        sym h.broken ∙ (ap (step_at r) same.1 ∙ k.broken)

    same_refused : (m n : ℕ) (p q : Place) → m ≡ n → p ≡ q → refused m p ≡ refused n q
    same_refused m n p q e f = cc

    one : (a b : Lexing) → IsLexing r s a → IsLexing r s b → a ≡ b
    one (lexed ts) (lexed us) h k = ap lexed (one_token_list ts us h k)
    one (lexed ts) (refused n q) h k = absurd (not_both ts n q h k)
    one (refused m p) (lexed us) h k = absurd (not_both us m p k h)
    one (refused m p) (refused n q) h k = let e = both_break m n p q h k in same_refused m n p q (same_rule m n p q e) (same_place m n p q e)

  -- ---- how much is left to read

  abbrev lines_size : List Line → ℕ
  lines_size [] = 0
  lines_size (l ∷ ls) = 1 + length l.bytes + lines_size ls

  abbrev size : Position → ℕ
  size a = length a.rest + lines_size a.lines

  goes_to : (ts us : List Lexeme) (a b : Position) → goes ts a ≡ goes us b → size a ≡ size b
  goes_to ts us a b e = ap size (same_position ts us a b e)

  not_goes : (o : Option Place) (ts : List Lexeme) (b : Position) → at_end o ≡ goes ts b → ⊥
  not_goes None ts b e = cc
  not_goes (Some p) ts b e = cc

  shorter_line : (st : State) (p : Place) (ls : List Line) (ts : List Lexeme) (b : Position) → at_line_end st p ls ≡ goes ts b → size b < lines_size ls
  shorter_line st p [] ts b e = absurd (not_goes st.comment ts b e)
  shorter_line st p (l ∷ ls) ts b e = let k = goes_to [] ts _ b e in omega (arith, k)

  shorter_piece : (a : Position) (pc : Piece) (ts : List Lexeme) (b : Position) → PieceSome pc → 0 < length a.rest → at_piece a pc ≡ goes ts b → size b < size a
  shorter_piece a (passes n next) ts b h some e = let k = goes_to [] ts _ b e in let d = length-drop n a.rest in omega (arith, k, d, h)
  shorter_piece a (reads n kd text) ts b h some e = let k = goes_to _ ts _ b e in let d = length-drop n a.rest in omega (arith, k, d, h)
  shorter_piece a (refuses rule) ts b h some e = absurd (none e)
    where
      none : breaks rule a.place ≡ goes ts b → ⊥
      none x = cc

  shorter_by : (a : Position) (bs : List ℕ) (ts : List Lexeme) (b : Position) → a.rest ≡ bs → step_by r a bs ≡ goes ts b → size b < size a
  shorter_by a [] ts b e f = let k = shorter_line a.state a.place a.lines ts b f in omega (arith, k)
  shorter_by a (c ∷ cs) ts b e f =
      shorter_piece a (piece_at r a.state a.place (c ∷ cs)) ts b (piece_some r a.state a.place c cs) (subst (λ (xs : List ℕ). 0 < length xs) (sym e) (omega arith)) f

  shorter : (a : Position) (ts : List Lexeme) (b : Position) → step_at r a ≡ goes ts b → size b < size a
  shorter a ts b e = shorter_by a a.rest ts b refl e

  -- ---- a text is read as far as it goes

  record IsEnded (a : Position) : Type 0 where
    tokens : List Lexeme
    last : Position
    read : Reads r a tokens last
    stop : (step_at r last ≡ ends) ⊎ ((rule : ℕ) × ((p : Place) × (step_at r last ≡ breaks rule p)))

  ended : (n : ℕ) (a : Position) → size a < n → IsEnded a
  ended zero a h = absurd (omega arith)
  ended (suc n) a h = by (step_at r a) refl (ended n)
    where
      by : (s : Step) → step_at r a ≡ s → ((b : Position) → size b < n → IsEnded b) → IsEnded a
      by ends e rec = record { tokens = []; last = a; read = here a; stop = inl e }
      by (breaks rule p) e rec = record { tokens = []; last = a; read = here a; stop = inr (rule, (p, e)) }
      by (goes ts b) e rec =
          let rest = rec b (let k = shorter a ts b e in omega (arith, k, h)) in
          record { tokens = ts ++ rest.tokens; last = rest.last; read = further a b rest.last ts rest.tokens e rest.read; stop = rest.stop }

  lexing_of : (s : Selected) → IsEnded (start s) → (a : Lexing) × IsLexing r s a
  lexing_of s h = by h.stop
    where
      by : (step_at r h.last ≡ ends) ⊎ ((rule : ℕ) × ((p : Place) × (step_at r h.last ≡ breaks rule p))) → (a : Lexing) × IsLexing r s a
      by (inl e) = (lexed (h.tokens ++ end_token s ∷ []), record { before = h.tokens; last = h.last; read = h.read; ended = e; tokens = refl })
      by (inr b) = (refused b.0 b.1.0, record { before = h.tokens; last = h.last; read = h.read; broken = b.1.1 })

pub one_lexing : HasOneLexing
one_lexing r s a b h k = one r s a b h k

pub some_lexing : HasSomeLexing
some_lexing r s = lexing_of r s (ended r (suc (size r (start s))) (start s) (omega arith))
