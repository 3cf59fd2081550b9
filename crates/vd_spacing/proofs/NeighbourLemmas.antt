-- What stands behind a token may follow it, and two tokens without a space between them need none.
use Rattle.std.proofs.Common.{◌≡◌, ℕ, Bool, true, false, eqb, not, ◌&&◌, ◌||◌, ⊎_elim, List, [], ◌∷◌, ◌++◌, get_or, Some, refl, sym, ap, ◌∙◌, subst}
use Rattle.std.proofs.lemmas.Bool.{and_parts, and_from, and_right, or_cases, or_left, or_right, eqb-true, true≢false}
use Rattle.vd_trees.specs.declared.revision.Revision.{Revision}
use Rattle.vd_trees.specs.declared.revision.Revision.TheVariants.{V2019}
use Rattle.vd_tokens.specs.declared.kinds.Kind.{Kind}
use Rattle.vd_tokens.specs.declared.kinds.Kind.TheVariants as kind
use Rattle.vd_tokens.specs.Marks.{marks}
use Rattle.vd_tokens.specs.Spellings.{spelling_of}
use Rattle.vd_literals.specs.Quoted.{begins_with}
use Rattle.vd_lex.specs.Pieces.{is_number, is_name_or_word, need_spacing}
use Rattle.vd_lex.specs.Spelled.{fits_apostrophe}
use Rattle.vd_lex.proofs.FollowLemmas.{is_stopped}
use Rattle.vd_lex.proofs.SpelledLemmas.{may_follow, follows_nothing}
use Rattle.vd_spacing.specs.Spacing.{is_mark, stands_close_behind, stands_close_before, may_be_called, is_spaced, Spacing, touching, spaced, new_line, Laid}
use Rattle.vd_spacing.specs.ReadingBack.{are_neighbours, is_apart, AreLaid}
use Rattle.vd_spacing.proofs.LineLemmas.{line_rest}

-- ---- no space stands between two tokens

-- no two that need spacing
pub need_none : (left right : Kind) → not (is_spaced left right) ≡ true → need_spacing (Some left) (Some right) ≡ false
need_none (kind.Mark n) right h = refl
need_none left (kind.Mark n) h = rw (and_right (is_number (Some left)) false refl, and_right (is_name_or_word (Some left)) false refl) refl
need_none left right h = absurd (true≢false (sym h))

spread : (a b c : Bool) → not (not a && (not b && not c)) ≡ true → (a || (b || c)) ≡ true
spread true b c h = refl
spread false true c h = refl
spread false false true h = refl
spread false false false h = h

-- one of the marks at which a token ends
mark_stops : (n : ℕ) (rest : List ℕ) → (eqb n 11 || (eqb n 6 || (eqb n 3 || (eqb n 8 || eqb n 1)))) ≡ true → is_stopped (get_or (marks V2019) n [] ++ rest) ≡ true
mark_stops n rest h =
    ⊎_elim (is 11 refl)
    (λ h. ⊎_elim (is 6 refl)
    (λ h. ⊎_elim (is 3 refl)
    (λ h. ⊎_elim (is 8 refl) (is 1 refl) (or_cases (eqb n 8) _ h)) (or_cases (eqb n 3) _ h)) (or_cases (eqb n 6) _ h)) (or_cases (eqb n 11) _ h)
  where
    is : (m : ℕ) → is_stopped (get_or (marks V2019) m [] ++ rest) ≡ true → eqb n m ≡ true → is_stopped (get_or (marks V2019) n [] ++ rest) ≡ true
    is m stops e = subst (λ k. is_stopped (get_or (marks V2019) k [] ++ rest) ≡ true) (sym (eqb-true n m e)) stops

close_stops : (right : Kind) (text rest : List ℕ) → stands_close_behind right ≡ true → is_stopped (spelling_of right text ++ rest) ≡ true
close_stops (kind.Mark n) text rest h = mark_stops n rest h
close_stops _ text rest h = absurd (true≢false (sym h))

bracket_stops : (right : Kind) (text rest : List ℕ) → is_mark 2 right ≡ true → is_stopped (spelling_of right text ++ rest) ≡ true
bracket_stops (kind.Mark n) text rest h = subst (λ k. is_stopped (get_or (marks V2019) k [] ++ rest) ≡ true) (sym (eqb-true n 2 h)) refl
bracket_stops _ text rest h = absurd (true≢false (sym h))

-- a mark that isn't the point has another first byte
no_point : (right : Kind) (text rest : List ℕ) → stands_close_behind right ≡ true → not (is_mark 8 right) ≡ true → begins_with 46 (spelling_of right text ++ rest) ≡ false
no_point (kind.Mark n) text rest h other =
    ⊎_elim (is 11 refl)
    (λ h. ⊎_elim (is 6 refl)
    (λ h. ⊎_elim (is 3 refl)
    (λ h. ⊎_elim (λ e. absurd (true≢false (sym other ∙ ap not e))) (is 1 refl) (or_cases (eqb n 8) _ h)) (or_cases (eqb n 3) _ h)) (or_cases (eqb n 6) _ h)) (or_cases (eqb n 11) _ h)
  where
    is : (m : ℕ) → begins_with 46 (get_or (marks V2019) m [] ++ rest) ≡ false → eqb n m ≡ true → begins_with 46 (get_or (marks V2019) n [] ++ rest) ≡ false
    is m e f = subst (λ k. begins_with 46 (get_or (marks V2019) k [] ++ rest) ≡ false) (sym (eqb-true n m f)) e
no_point _ text rest h other = absurd (true≢false (sym h))

-- a mark behind which anything may stand
close_before : (n : ℕ) → stands_close_before (kind.Mark n) ≡ true → (eqb n 1 || (eqb n 2 || eqb n 8)) ≡ true
close_before n h = turn (eqb n 2) (eqb n 8) (eqb n 1) h
  where
    turn : (a b c : Bool) → (a || (b || c)) ≡ true → (c || (a || b)) ≡ true
    turn true b true e = refl
    turn true b false e = refl
    turn false true true e = refl
    turn false true false e = refl
    turn false false c e = or_left c false e

module _ (right : Kind) (text rest : List ℕ) where
  -- behind any token but a mark
  stops_by : (left : Kind) → stands_close_before left ≡ false → not (is_spaced left right) ≡ true → is_stopped (spelling_of right text ++ rest) ≡ true
  stops_by left far h =
      let s = spread (stands_close_behind right) (stands_close_before left) (is_mark 2 right && may_be_called left) h in
      ⊎_elim (close_stops right text rest)
      (λ e. ⊎_elim (λ f. absurd (true≢false (sym f ∙ far))) (λ f. bracket_stops right text rest (and_parts (is_mark 2 right) (may_be_called left) f).0) (or_cases (stands_close_before left) (is_mark 2 right && may_be_called left) e))
      (or_cases (stands_close_behind right) (stands_close_before left || (is_mark 2 right && may_be_called left)) s)

  number_touches : not (is_spaced kind.Number right) ≡ true → stands_close_behind right ≡ true
  number_touches h =
      let none = and_right (is_mark 2 right) false refl in
      let s = spread (stands_close_behind right) false (is_mark 2 right && false) h in
      ⊎_elim (λ e. e) (λ e. absurd (true≢false (sym e ∙ none))) (or_cases (stands_close_behind right) (is_mark 2 right && false) s)

  touches : (left : Kind) → not (is_spaced left right) ≡ true → are_neighbours (Some left) right ≡ true → may_follow left (spelling_of right text ++ rest) ≡ true
  touches kind.Letter h e = refl
  touches kind.Number h e =
      let close = number_touches h in
      let other = (and_parts (fits_apostrophe (Some kind.Number) right) (not (true && is_mark 8 right)) e).1 in
      and_from (is_stopped (spelling_of right text ++ rest)) _ (close_stops right text rest close) (ap not (no_point right text rest close other))
  touches (kind.Mark n) h e = by (stands_close_before (kind.Mark n)) refl
    where
      by : (b : Bool) → stands_close_before (kind.Mark n) ≡ b → may_follow (kind.Mark n) (spelling_of right text ++ rest) ≡ true
      by true f = or_left (eqb n 1 || (eqb n 2 || eqb n 8)) _ (close_before n f)
      by false f = or_right (eqb n 1 || (eqb n 2 || eqb n 8)) _ (stops_by (kind.Mark n) f h)
  touches left h e = stops_by left refl h

-- ---- a space does

space_follows : (left : Kind) (rest : List ℕ) → may_follow left (32 ∷ rest) ≡ true
space_follows (kind.Mark n) rest = or_right (eqb n 1 || (eqb n 2 || eqb n 8)) true refl
space_follows left rest = refl

-- whatever stands behind a token in its line may follow it
pub rest_follows : (r : Revision) (left : Kind) (ts : List Laid) → AreLaid r (Some left) ts → may_follow left (line_rest ts) ≡ true
rest_follows r left [] h = follows_nothing left
rest_follows r left (t ∷ ts) h = by t.spacing h.2
  where
    by : (s : Spacing) → is_apart (Some left) s t.kind ≡ true → may_follow left (line_rest (record t { spacing = s } ∷ ts)) ≡ true
    by touching e = touches t.kind t.text (line_rest ts) left e h.1
    by spaced e = space_follows left (spelling_of t.kind t.text ++ line_rest ts)
    by (new_line level) e = follows_nothing left
