-- What each token of a token list is, and that the end stands last and nowhere else.
use Rattle.std.proofs.Common.{◌≡◌, ℕ, Bool, true, false, eqb, List, [], ◌∷◌, ◌++◌, Option, Some, None, is_none, refl, sym, ap, ◌∙◌, subst, arith}
use Rattle.std.specs.List.{AllByRecursion}
use Rattle.std.specs.Str.{bytes_eq}
use Rattle.std.proofs.lemmas.Bool.{and_from, cond-true, cond-false}
use Rattle.std.proofs.lemmas.Bool.Decides.{nat_tests}
use Rattle.std.proofs.lemmas.Slice.Eq.{bytes_eq-Decides}
use Rattle.vd_trees.specs.declared.revision.Revision.{Revision}
use Rattle.vd_trees.specs.Identifiers.{is_letter, is_letter_or_digit, starts_with_letter_or_digit, is_name_rest, is_name, lower, lowered, place_among, is_identifier}
use Rattle.vd_trees.specs.Words.{reserved_words}
use Rattle.vd_first_lex.specs.declared.selected.Selected.{Selected}
use Rattle.vd_first_lex.specs.declared.tokens.Kind.{Kind}
use Rattle.vd_first_lex.specs.declared.tokens.Kind.TheVariants.{Name, Word, Mark, End}
use Rattle.vd_first_lex.specs.declared.tokens.Token.{Token}
use Rattle.vd_first_lex.specs.Lexis.{Spot, bytes_of, marks, marks_taken, mark_kind, word_or_name, kind_of, text_if_name, token_with, Piece, spacing, token, piece_tokens, all_tokens, end_token, IsTokenList}
use Rattle.vd_first_lex.specs.Lexings.{KeepsText, IsPossible, EndsOnce}

-- ---- lower case

lower-lower : (b : ℕ) → lower (lower b) ≡ lower b
lower-lower b = grind (arith, nat_tests)

is_letter-lower : (b : ℕ) → is_letter (lower b) ≡ is_letter b
is_letter-lower b = grind (arith, nat_tests)

is_letter_or_digit-lower : (b : ℕ) → is_letter_or_digit (lower b) ≡ is_letter_or_digit b
is_letter_or_digit-lower b = grind (arith, nat_tests)

underscore-lower : (b : ℕ) → eqb (lower b) 95 ≡ eqb b 95
underscore-lower b = grind (arith, nat_tests)

starts-lowered : (bs : List ℕ) → starts_with_letter_or_digit (lowered bs) ≡ starts_with_letter_or_digit bs
starts-lowered [] = refl
starts-lowered (b ∷ bs) = is_letter_or_digit-lower b

is_name_rest-lowered : (bs : List ℕ) → is_name_rest (lowered bs) ≡ is_name_rest bs
is_name_rest-lowered [] = refl
is_name_rest-lowered (b ∷ bs) =
    rw (is_letter_or_digit-lower b, underscore-lower b, starts-lowered bs, is_name_rest-lowered bs) refl

pub is_name-lowered : (bs : List ℕ) → is_name (lowered bs) ≡ is_name bs
is_name-lowered [] = refl
is_name-lowered (b ∷ bs) = rw (is_letter-lower b, is_name_rest-lowered bs) refl

pub lowered-lowered : (bs : List ℕ) → lowered (lowered bs) ≡ lowered bs
lowered-lowered [] = refl
lowered-lowered (b ∷ bs) = rw (lower-lower b, lowered-lowered bs) refl

-- ---- kinds

module _ (r : Revision) where
  -- what a token's kind is, and what that says of its text
  data HasKind (text : List ℕ) (k : Kind) : Type 0 where
    a_name : k ≡ Name → is_name text ≡ true → place_among (reserved_words r) (lowered text) ≡ None → HasKind text k
    a_word : (n : ℕ) → k ≡ Word n → HasKind text k
    a_mark : (n : ℕ) → k ≡ Mark n → HasKind text k

  some_is : (k l : Kind) → Some k ≡ Some l → l ≡ k
  some_is k l e = cc

  none_is : (l : Kind) → None ≡ Some l → ⊥
  none_is l e = cc

  at_word : (text : List ℕ) (k : Kind) (o : Option ℕ) → is_name text ≡ true → place_among (reserved_words r) (lowered text) ≡ o → Some (word_or_name o) ≡ Some k → HasKind text k
  at_word text k None name is e = a_name (some_is Name k e) name is
  at_word text k (Some n) name is e = a_word n (some_is (Word n) k e)

  at_mark : (text : List ℕ) (k : Kind) (o p : Option ℕ) → (elim o as (λ _. Option Kind) [ None ↦ None | Some n ↦ mark_kind p ]) ≡ Some k → HasKind text k
  at_mark text k None p e = absurd (none_is k e)
  at_mark text k (Some n) None e = absurd (none_is k e)
  at_mark text k (Some n) (Some m) e = a_mark m (some_is (Mark m) k e)

  has_kind : (text : List ℕ) (k : Kind) → kind_of r text ≡ Some k → HasKind text k
  has_kind text k e = by (is_name text) refl
    where
      by : (t : Bool) → is_name text ≡ t → HasKind text k
      by true name = at_word text k (place_among (reserved_words r) (lowered text)) name refl (sym (cond-true (is_name text) _ _ name) ∙ e)
      by false name = at_mark text k (place_among marks_taken text) (place_among marks text) (sym (cond-false (is_name text) _ _ name) ∙ e)

  identifier : (text : List ℕ) → is_name text ≡ true → place_among (reserved_words r) (lowered text) ≡ None → is_identifier r (lowered text) ≡ true
  identifier text name free =
      and_from (is_name (lowered text)) _ (is_name-lowered text ∙ name)
      (and_from (bytes_eq (lowered (lowered text)) (lowered text)) _ ((bytes_eq-Decides (lowered (lowered text)) (lowered text)).1 (lowered-lowered text)) (ap is_none free))

  keeps_text : (text : List ℕ) (k : Kind) → HasKind text k → KeepsText r k (text_if_name k text)
  keeps_text text k (a_name e name free) = subst (λ l. KeepsText r l (text_if_name l text)) (sym e) (identifier text name free)
  keeps_text text k (a_word n e) = subst (λ l. KeepsText r l (text_if_name l text)) (sym e) refl
  keeps_text text k (a_mark n e) = subst (λ l. KeepsText r l (text_if_name l text)) (sym e) refl

  no_end : (text : List ℕ) (k : Kind) → HasKind text k → k ≡ End → ⊥
  no_end text k (a_name e name free) h = cc
  no_end text k (a_word n e) h = cc
  no_end text k (a_mark n e) h = cc

  -- ---- token lists

  all_append : (P : Token → Type 0) (ts us : List Token) → AllByRecursion P ts → AllByRecursion P us → AllByRecursion P (ts ++ us)
  all_append P [] us h k = k
  all_append P (t ∷ ts) us h k = (h.0, all_append P ts us h.1 k)

  -- a token that stands between the first and the end
  record IsInner (t : Token) : Type 0 where
    possible : IsPossible r t
    other : t.kind ≡ End → ⊥

  inner_with : (o : Option Kind) (s : Spot) (text : List ℕ) → kind_of r text ≡ o → AllByRecursion IsInner (token_with o s text)
  inner_with None s text e = tt
  inner_with (Some k) s text e =
      let h = has_kind text k e in
      (record { possible = keeps_text text k h; other = no_end text k h }, tt)

  inner_piece : (p : Piece) → AllByRecursion IsInner (piece_tokens r p)
  inner_piece (spacing s) = tt
  inner_piece (token s ss) = inner_with (kind_of r (bytes_of (s ∷ ss))) s (bytes_of (s ∷ ss)) refl

  inner_pieces : (ps : List Piece) → AllByRecursion IsInner (all_tokens r ps)
  inner_pieces [] = tt
  inner_pieces (p ∷ ps) = all_append IsInner (piece_tokens r p) (all_tokens r ps) (inner_piece p) (inner_pieces ps)

  all_possible : (ts : List Token) → AllByRecursion IsInner ts → AllByRecursion (IsPossible r) ts
  all_possible [] h = tt
  all_possible (t ∷ ts) h = (h.0.possible, all_possible ts h.1)

  ends_with : (ts : List Token) (e : Token) → AllByRecursion IsInner ts → e.kind ≡ End → EndsOnce (ts ++ e ∷ [])
  ends_with [] e h is = is
  ends_with (t ∷ []) e h is = (h.0.other, is)
  ends_with (t ∷ u ∷ ts) e h is = (h.0.other, ends_with (u ∷ ts) e h.1 is)

  -- each token of a token list can be one
  pub possible_tokens : (s : Selected) (ts : List Token) → IsTokenList r s ts → AllByRecursion (IsPossible r) ts
  possible_tokens s ts h =
      subst (AllByRecursion (IsPossible r)) (sym h.tokens)
      (all_append (IsPossible r) (all_tokens r h.pieces) (end_token s.file s.lines ∷ []) (all_possible (all_tokens r h.pieces) (inner_pieces h.pieces)) (refl, tt))

  -- the end stands last, and nowhere else
  pub ends_once : (s : Selected) (ts : List Token) → IsTokenList r s ts → EndsOnce ts
  ends_once s ts h = subst EndsOnce (sym h.tokens) (ends_with (all_tokens r h.pieces) (end_token s.file s.lines) (inner_pieces h.pieces) refl)
