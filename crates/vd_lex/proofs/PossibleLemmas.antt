-- Each token of a token list can be one, and the end stands last and nowhere else.
use Rattle.std.proofs.Common.{◌≡◌, ℕ, ◌+◌, ◌-◌, ◌<◌, Bool, true, false, cond, eqb, leb, ◌&&◌, List, [], ◌∷◌, ◌++◌, length, take, Option, Some, None, Result, Ok, Err, IfOk, refl, sym, subst, arith}
use Rattle.std.specs.List.{AllByRecursion}
use Rattle.std.specs.Prelude.{slice_range}
use Rattle.std.specs.Str.{bytes_eq}
use Rattle.std.proofs.lemmas.Bool.{and_parts, and_from, cond_both}
use Rattle.std.proofs.lemmas.List.Quantifiers.{position-Some}
use Rattle.vd_bytes.specs.declared.answers.Refusal.{Refusal}
use Rattle.vd_bytes.specs.declared.places.Place.{Place}
use Rattle.vd_trees.specs.declared.revision.Revision.{Revision}
use Rattle.vd_trees.specs.declared.revision.Revision.TheVariants.{V2019, V1993}
use Rattle.vd_trees.specs.Identifiers.{is_letter, place_among}
use Rattle.vd_directives.specs.declared.selected.Line.{Line}
use Rattle.vd_directives.specs.declared.selected.Selected.{Selected}
use Rattle.vd_tokens.specs.declared.kinds.Kind.{Kind}
use Rattle.vd_tokens.specs.declared.kinds.Kind.TheVariants as kind
use Rattle.vd_tokens.specs.Lexemes.{Lexeme}
use Rattle.vd_tokens.specs.Marks.{marks}
use Rattle.vd_tokens.specs.Spellings.{is_graphic, is_digit, IsTextOf, IsPossible, EndsOnce}
use Rattle.vd_literals.specs.declared.quoted.Before.TheVariants.{Start}
use Rattle.vd_literals.specs.declared.bits.BitsForm.{BitsForm}
use Rattle.vd_literals.specs.declared.bits.BitsForm.TheVariants as bits
use Rattle.vd_literals.specs.declared.numbers.NumberItem.{NumberItem}
use Rattle.vd_literals.specs.declared.numbers.NumberItem.TheVariants as number
use Rattle.vd_literals.specs.Runs.{run_length, more_length}
use Rattle.vd_literals.specs.Values.{bounded, value_of}
use Rattle.vd_literals.specs.Numbers.{number_at}
use Rattle.vd_literals.specs.Quoted.{marks_end, undoubled}
use Rattle.vd_literals.specs.Bits.{bits_form, bits_text}
use Rattle.vd_lex.specs.declared.states.State.{State}
use Rattle.vd_lex.specs.declared.items.First.TheVariants as first
use Rattle.vd_lex.specs.Items.{Item, token, broken, word_item, number_item, bits_item, bits_or, sized_or, letter_item, digit_item, quoted_item, character_item, apostrophe_item, has_attribute, mark_or, mark_item, mark_front, other_item, are_angles, first_of, item_by, item_at}
use Rattle.vd_lex.specs.Pieces.{Piece, passes, reads, refuses, checked, is_too_near, outside, piece_by, piece_at, is_spacing, begins_line_comment, begins_comment, ends_comment, without_near, with_comment}
use Rattle.vd_lex.specs.Lexis.{Position, Step, goes, breaks, ends, at_piece, at_end, at_line_end, step_by, Reads, here, further, start, end_token, IsTokenList}
use Rattle.vd_lex.proofs.KindLemmas.{ItemFine, word_fine}
use Rattle.vd_lex.proofs.TextLemmas.{NumberFine, number_fine, EndFine, end_fine, all_undoubled, BodyFine, body_fine, TextFine, text_fine}

module _ (r : Revision) where
  number_item_fine : (i : NumberItem) → NumberFine i → ItemFine r (number_item i)
  number_item_fine (number.Whole n v) h = (record { number = v; fits = h; is_decimal = refl }, λ x. cc)
  number_item_fine number.OutOfRange h = tt
  number_item_fine number.Real h = tt

  bits_item_fine : (n : ℕ) (o : Option (List ℕ)) → TextFine r o → ItemFine r (bits_item n o)
  bits_item_fine n None h = tt
  bits_item_fine n (Some text) h = (h, λ x. cc)

  bits_or_fine : (text : List ℕ) (size : Option ℕ) (other : Item) (f : BitsForm) → ItemFine r other → BodyFine text f → ItemFine r (bits_or r text size other f)
  bits_or_fine text size other bits.Absent h k = h
  bits_or_fine text size other bits.Unended h k = tt
  bits_or_fine text size other (bits.Whole sign width start end) h k =
      bits_item_fine (end + 1) (bits_text r sign width size (undoubled (slice_range text start end)))
      (text_fine r sign width size (undoubled (slice_range text start end)) (all_undoubled is_graphic (slice_range text start end) k))

  sized_or_fine : (text : List ℕ) (size : Option ℕ) (other : Item) (f : BitsForm) → ItemFine r other → BodyFine text f → ItemFine r (sized_or r text size other f)
  sized_or_fine text size other bits.Absent h k = h
  sized_or_fine text size other bits.Unended h k = tt
  sized_or_fine text None other (bits.Whole sign width start end) h k = tt
  sized_or_fine text (Some n) other (bits.Whole sign width start end) h k =
      bits_item_fine (end + 1) (bits_text r sign width (Some n) (undoubled (slice_range text start end)))
      (text_fine r sign width (Some n) (undoubled (slice_range text start end)) (all_undoubled is_graphic (slice_range text start end) k))

  letter_fine : (b : ℕ) (bs : List ℕ) → is_letter b ≡ true → ItemFine r (letter_item r (b ∷ bs))
  letter_fine b bs l = bits_or_fine (b ∷ bs) None (word_item r (1 + more_length true bs) (b ∷ bs)) (bits_form r 0 (b ∷ bs)) (word_fine r b bs l) (body_fine r 0 (b ∷ bs))

  quoted_fine : (bs : List ℕ) (o : Option ℕ) → EndFine bs o → ItemFine r (quoted_item bs o)
  quoted_fine bs None h = tt
  quoted_fine bs (Some n) h = (all_undoubled is_graphic (take (n - 1) bs) h.1, λ x. cc)

  character_fine : (bs : List ℕ) → ItemFine r (character_item bs)
  character_fine [] = tt
  character_fine (b ∷ []) = tt
  character_fine (b ∷ c ∷ cs) =
      cond_both (is_graphic b && eqb c 39) (token 3 kind.Letter (b ∷ [])) (broken None 102) (ItemFine r)
      (λ t. ((refl, and_from (is_graphic b) true (and_parts (is_graphic b) (eqb c 39) t).0 refl), λ x. cc)) (λ t. tt)

  abbrev MarkFine : Option ℕ → Type 0
  MarkFine None = Unit {0}
  MarkFine (Some k) = k < length (marks r)

  place_fine : (text : List ℕ) (o : Option ℕ) → place_among (marks r) text ≡ o → MarkFine o
  place_fine text None e = tt
  place_fine text (Some k) e = (position-Some (λ t. bytes_eq text t) (marks r) k [] e).0

  front_fine : (n : ℕ) (text : List ℕ) → MarkFine (mark_front r n text)
  front_fine n text = cond_both (leb n (length text)) (place_among (marks r) (take n text)) None MarkFine (λ t. place_fine (take n text) (place_among (marks r) (take n text)) refl) (λ t. tt)

  mark_or_fine : (n : ℕ) (other : Item) (o : Option ℕ) → MarkFine o → ItemFine r other → ItemFine r (mark_or n other o)
  mark_or_fine n other None h k = k
  mark_or_fine n other (Some m) h k = ((h, refl), λ x. cc)

  mark_fine : (text : List ℕ) → ItemFine r (mark_item r text)
  mark_fine text =
      mark_or_fine 3 (mark_or 2 (mark_or 1 (broken None 101) (mark_front r 1 text)) (mark_front r 2 text)) (mark_front r 3 text) (front_fine 3 text)
      (mark_or_fine 2 (mark_or 1 (broken None 101) (mark_front r 1 text)) (mark_front r 2 text) (front_fine 2 text)
      (mark_or_fine 1 (broken None 101) (mark_front r 1 text) (front_fine 1 text) tt))

  other_fine : (b : ℕ) (bs : List ℕ) → ItemFine r (other_item r b bs)
  other_fine b bs = cond_both (are_angles b bs) (broken None 107) (mark_item r (b ∷ bs)) (ItemFine r) (λ t. tt) (λ t. mark_fine (b ∷ bs))

one_mark : (r : Revision) → 1 < length (marks r)
one_mark V2019 = omega arith
one_mark V1993 = omega arith

digit_fine : (r : Revision) (text : List ℕ) → ItemFine r (digit_item r text)
digit_fine V1993 text = number_item_fine V1993 (number_at text) (number_fine text)
digit_fine V2019 text =
    sized_or_fine V2019 text (bounded (value_of 10 (take (run_length false text) text))) (number_item (number_at text)) (bits_form V2019 (run_length false text) text)
    (number_item_fine V2019 (number_at text) (number_fine text)) (body_fine V2019 (run_length false text) text)

module _ (r : Revision) (last : Option Kind) where
  attribute_fine : (bs : List ℕ) → ItemFine r (apostrophe_item last bs)
  attribute_fine bs = cond_both (has_attribute last) (token 1 (kind.Mark 1) []) (character_item bs) (ItemFine r) (λ t. ((one_mark r, refl), λ x. cc)) (λ t. character_fine r bs)

  any_fine : (b : ℕ) (bs : List ℕ) → ItemFine r (item_by r last b bs (first_of b))
  any_fine b bs = by (is_letter b) refl
    where
      others : (t u v w x : Bool) → ItemFine r (item_by r last b bs (cond t first.Digit (cond u first.Underscore (cond v first.Quotation (cond w first.Apostrophe (cond x first.Backslash first.Other))))))
      others true u v w x = digit_fine r (b ∷ bs)
      others false true v w x = tt
      others false false true w x = quoted_fine r bs (marks_end false Start bs) (end_fine false Start bs)
      others false false false true x = attribute_fine bs
      others false false false false true = tt
      others false false false false false = other_fine r b bs

      by : (t : Bool) → is_letter b ≡ t → ItemFine r (item_by r last b bs (first_of b))
      by true l = rw (l) (letter_fine r b bs l)
      by false l = rw (l) (others (is_digit b) (eqb b 95) (eqb b 34) (eqb b 39) (eqb b 92))

-- ---- pieces and steps

module _ (r : Revision) where
  abbrev PieceFine : Piece → Type 0
  PieceFine (passes n next) = Unit {0}
  PieceFine (reads n k text) = IsTextOf r k text × (k ≡ kind.End → ⊥)
  PieceFine (refuses rule) = Unit {0}

  checked_fine : (st : State) (i : Item) → ItemFine r i → PieceFine (checked st i)
  checked_fine st (token n k text) h = cond_both (is_too_near st (Some k)) (refuses 103) (reads n k text) PieceFine (λ t. tt) (λ t. h)
  checked_fine st (broken k rule) h = cond_both (is_too_near st k) (refuses 103) (refuses rule) PieceFine (λ t. tt) (λ t. tt)

  outside_fine : (st : State) (p : Place) (b : ℕ) (bs : List ℕ) → PieceFine (outside r st p b bs)
  outside_fine st p b bs =
      cond_both (is_spacing b) (passes 1 (without_near st)) (cond (begins_line_comment b bs) (passes (length (b ∷ bs)) st) (cond (begins_comment r b bs) (passes 2 (with_comment (Some p) st)) (checked st (item_at r st.last (b ∷ bs))))) PieceFine
      (λ t. tt)
      (λ t. cond_both (begins_line_comment b bs) (passes (length (b ∷ bs)) st) (cond (begins_comment r b bs) (passes 2 (with_comment (Some p) st)) (checked st (item_at r st.last (b ∷ bs)))) PieceFine
      (λ u. tt)
      (λ u. cond_both (begins_comment r b bs) (passes 2 (with_comment (Some p) st)) (checked st (item_at r st.last (b ∷ bs))) PieceFine (λ v. tt) (λ v. checked_fine st (item_at r st.last (b ∷ bs)) (any_fine r st.last b bs))))

  by_fine : (st : State) (p : Place) (b : ℕ) (bs : List ℕ) (c : Option Place) → PieceFine (piece_by r st p b bs c)
  by_fine st p b bs None = outside_fine st p b bs
  by_fine st p b bs (Some q) = cond_both (ends_comment b bs) (passes 2 (with_comment None st)) (passes 1 st) PieceFine (λ t. tt) (λ t. tt)

  -- a token that stands between the first and the end
  record IsInner (t : Lexeme) : Type 0 where
    possible : IsPossible r t
    other : t.kind ≡ kind.End → ⊥

  abbrev StepFine : Step → Type 0
  StepFine (goes ts b) = AllByRecursion IsInner ts
  StepFine (breaks rule p) = Unit {0}
  StepFine ends = Unit {0}

  piece_step : (a : Position) (pc : Piece) → PieceFine pc → StepFine (at_piece a pc)
  piece_step a (passes n next) h = tt
  piece_step a (reads n k text) h = (record { possible = h.0; other = h.1 }, tt)
  piece_step a (refuses rule) h = tt

  end_step : (o : Option Place) → StepFine (at_end o)
  end_step None = tt
  end_step (Some p) = tt

  line_step : (st : State) (p : Place) (ls : List Line) → StepFine (at_line_end st p ls)
  line_step st p [] = end_step st.comment
  line_step st p (l ∷ ls) = tt

  by_step : (a : Position) (bs : List ℕ) → StepFine (step_by r a bs)
  by_step a [] = line_step a.state a.place a.lines
  by_step a (b ∷ bs) = piece_step a (piece_at r a.state a.place (b ∷ bs)) (by_fine a.state a.place b bs a.state.comment)

  all_append : (P : Lexeme → Type 0) (ts us : List Lexeme) → AllByRecursion P ts → AllByRecursion P us → AllByRecursion P (ts ++ us)
  all_append P [] us h k = k
  all_append P (t ∷ ts) us h k = (h.0, all_append P ts us h.1 k)

  inner_tokens : (a b : Position) (ts : List Lexeme) → Reads r a ts b → AllByRecursion IsInner ts
  inner_tokens a b ts (here x) = tt
  inner_tokens a b ts (further x y z us vs e h) = all_append IsInner us vs (subst StepFine e (by_step x x.rest)) (inner_tokens y z vs h)

  all_possible : (ts : List Lexeme) → AllByRecursion IsInner ts → AllByRecursion (IsPossible r) ts
  all_possible [] h = tt
  all_possible (t ∷ ts) h = (h.0.possible, all_possible ts h.1)

  ends_with : (ts : List Lexeme) (e : Lexeme) → AllByRecursion IsInner ts → e.kind ≡ kind.End → EndsOnce (ts ++ e ∷ [])
  ends_with [] e h is = is
  ends_with (t ∷ []) e h is = (h.0.other, is)
  ends_with (t ∷ u ∷ ts) e h is = (h.0.other, ends_with (u ∷ ts) e h.1 is)

  -- each token of a token list can be one
  pub possible_tokens : (s : Selected) (ts : List Lexeme) → IsTokenList r s ts → AllByRecursion (IsPossible r) ts
  possible_tokens s ts h =
      subst (AllByRecursion (IsPossible r)) (sym h.tokens)
      (all_append (IsPossible r) h.before (end_token s ∷ []) (all_possible h.before (inner_tokens (start s) h.last h.before h.read)) (refl, tt))

  -- the end stands last, and nowhere else
  pub ends_once : (s : Selected) (ts : List Lexeme) → IsTokenList r s ts → EndsOnce ts
  ends_once s ts h = subst EndsOnce (sym h.tokens) (ends_with h.before (end_token s) (inner_tokens (start s) h.last h.before h.read) refl)

-- ---- of a result

module _ (r q : Revision) (s : Selected) where
  pub result_possible : (result : Result (List Lexeme) Refusal) → r ≡ q → IfOk result (λ ts. IsTokenList r s ts) → IfOk result (λ ts. AllByRecursion (IsPossible q) ts)
  result_possible (Ok ts) e h = subst (λ x. AllByRecursion (IsPossible x) ts) e (possible_tokens r s ts h)
  result_possible (Err x) e h = tt

  pub result_ends : (result : Result (List Lexeme) Refusal) → IfOk result (λ ts. IsTokenList r s ts) → IfOk result (λ ts. EndsOnce ts)
  result_ends (Ok ts) h = ends_once r s ts h
  result_ends (Err x) h = tt
