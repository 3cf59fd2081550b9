-- The lines of laid out tokens.
use Rattle.std.proofs.Common.{◌≡◌, ℕ, zero, suc, ◌*◌, true, false, eqb, List, [], ◌∷◌, ◌++◌, replicate, refl, ap, arith}
use Rattle.std.specs.List.{list_all}
use Rattle.std.proofs.lemmas.Bool.{and_parts}
use Rattle.std.proofs.lemmas.Bool.Decides.{nat_tests}
use Rattle.vd_trees.specs.declared.revision.Revision.{Revision}
use Rattle.vd_directives.specs.Lines.{in_first_line, lines_of}
use Rattle.vd_tokens.specs.declared.kinds.Kind.{Kind}
use Rattle.vd_tokens.specs.Spellings.{is_graphic, spelling_of}
use Rattle.vd_spacing.specs.Spacing.{Spacing, touching, spaced, new_line, spacing_bytes, Laid, laid_behind}
use Rattle.vd_spacing.specs.ReadingBack.{AreLaid}
use Rattle.vd_spacing.proofs.GraphicLemmas.{AreGraphic, spelling_graphic}
use Rattle.std.specs.Prelude.{Option, Some}

abbrev rest_by : Spacing → List ℕ → List ℕ
rest_by touching bs = bs
rest_by spaced bs = 32 ∷ bs
rest_by (new_line level) bs = []

abbrev lines_by : Spacing → List ℕ → List (List ℕ) → List (List ℕ)
lines_by touching l ls = ls
lines_by spaced l ls = ls
lines_by (new_line level) l ls = (replicate (2 * level) 32 ++ l) ∷ ls

-- the rest of the line behind which these tokens stand
abbrev pub line_rest : List Laid → List ℕ
line_rest [] = []
line_rest (t ∷ ts) = rest_by t.spacing (spelling_of t.kind t.text ++ line_rest ts)

-- and the lines behind that
abbrev pub lines_rest : List Laid → List (List ℕ)
lines_rest [] = []
lines_rest (t ∷ ts) = lines_by t.spacing (spelling_of t.kind t.text ++ line_rest ts) (lines_rest ts)

no_feed : (b : ℕ) → is_graphic b ≡ true → eqb b 10 ≡ false
no_feed b h = grind (arith, nat_tests)

no_return : (b : ℕ) → is_graphic b ≡ true → eqb b 13 ≡ false
no_return b h = grind (arith, nat_tests)

-- graphic characters stand in front of the first line
pub lines_front : (front bs l : List ℕ) (ls : List (List ℕ)) → AreGraphic front → lines_of bs ≡ l ∷ ls → lines_of (front ++ bs) ≡ (front ++ l) ∷ ls
lines_front [] bs l ls g e = e
lines_front (b ∷ front) bs l ls g e =
    let p = and_parts (is_graphic b) (list_all is_graphic front) g in
    let feed = no_feed b p.0 in
    let return = no_return b p.0 in
    let rest = lines_front front bs l ls p.1 e in
    rw (feed, return, rest) refl

blanks_graphic : (n : ℕ) → AreGraphic (replicate n 32)
blanks_graphic zero = refl
blanks_graphic (suc n) = blanks_graphic n

by_spacing : (s : Spacing) (bs l : List ℕ) (ls : List (List ℕ)) → lines_of bs ≡ l ∷ ls → lines_of (spacing_bytes s ++ bs) ≡ rest_by s l ∷ lines_by s l ls
by_spacing touching bs l ls e = e
by_spacing spaced bs l ls e = ap (in_first_line 32) e
by_spacing (new_line level) bs l ls e = ap (λ xs. [] ∷ xs) (lines_front (replicate (2 * level) 32) bs l ls (blanks_graphic (2 * level)) e)

module _ (r : Revision) where
  pub lines_behind : (ts : List Laid) (last : Option Kind) → AreLaid r last ts → lines_of (laid_behind ts) ≡ line_rest ts ∷ lines_rest ts
  lines_behind [] last h = refl
  lines_behind (t ∷ ts) last h =
      let spelled = spelling_of t.kind t.text in
      by_spacing t.spacing (spelled ++ laid_behind ts) (spelled ++ line_rest ts) (lines_rest ts)
      (lines_front spelled (laid_behind ts) (line_rest ts) (lines_rest ts) (spelling_graphic r t.kind t.text h.0.0) (lines_behind ts (Some t.kind) h.3))
