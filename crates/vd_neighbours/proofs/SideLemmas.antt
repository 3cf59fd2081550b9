-- The tokens of a design, side by side.
use Rattle.std.proofs.Common.{◌≡◌, ℕ, Bool, true, false, eqb, ◌&&◌, List, [], ◌∷◌, ◌++◌, map, None, Some, ⊎_elim, refl, sym, ap, ◌∙◌, subst}
use Rattle.std.specs.List.{AllByRecursion}
use Rattle.std.proofs.lemmas.Bool.{true≢false, eqb-true}
use Rattle.std.proofs.lemmas.List.{append-nil}
use Rattle.vd_trees.specs.declared.revision.Revision.{Revision}
use Rattle.vd_trees.specs.declared.revision.Revision.TheVariants.{V1993}
use Rattle.vd_tokens.specs.declared.kinds.Kind.{Kind}
use Rattle.vd_tokens.specs.declared.kinds.Kind.TheVariants.{End}
use Rattle.vd_tokens.specs.Lexemes.{Lexeme}
use Rattle.vd_tokens.specs.Spellings.{IsPossible, EndsOnce}
use Rattle.vd_gram.specs.declared.tables.Table.{Table}
use Rattle.vd_gram.specs.Claims.{has, firsts_of, follow_of, claims_are_closed, follows_are_closed, is_checked}
use Rattle.vd_gram.specs.Derivations.{Trees, IsDerivation, yield}
use Rattle.vd_gram.proofs.SignLemmas.{checks, begins}
use Rattle.vd_forest.specs.Forest.{Forest}
use Rattle.vd_forms.specs.declared.form.Form.{Form}
use Rattle.vd_forms.specs.Validity.{IsDesign}
use Rattle.vd_shapes.specs.Reading.{symbol_of, symbols_in}
use Rattle.vd_shapes.specs.Rows.{IsListed}
use Rattle.vd_shapes.proofs.PlacedLemmas.{Spots, spotted, holds_listed}
use Rattle.vd_templates.specs.Templates.{tokens_in, items_of, lexeme}
use Rattle.vd_templates.proofs.TokenLemmas.{are_possible, end_once}
use Rattle.vd_grammar93.specs.Grammar.{lists, grammar}
use Rattle.vd_grammar93.proofs.Checked.{grammar_is_checked}
use Rattle.vd_derivations93.proofs.Checked.{derived}
use Rattle.vd_spacing.specs.ReadingBack.{are_neighbours, IsInside}
use Rattle.vd_neighbours.specs.Pairs.{ArePairs, pairs_fit, all_pairs_fit}
use Rattle.vd_neighbours.specs.Neighbours.{WordsHaveNoAttribute, StandSideBySide, TokensStandSideBySide}
use Rattle.vd_neighbours.proofs.KindLemmas.{may_touch, neighbours, first_fits}
use Rattle.vd_neighbours.proofs.PairLemmas.{chain}

-- ---- the grammar of 1993

listed_grammar : IsListed lists grammar
listed_grammar = record { terminals = refl; start = refl; marked = refl; productions = refl; claims = refl }

spotted_fit : (p : Spots) → all_pairs_fit (spotted p lists) may_touch ≡ true
spotted_fit p = refl

grammar_fits : all_pairs_fit grammar may_touch ≡ true
grammar_fits = holds_listed (λ u. all_pairs_fit u may_touch ≡ true) lists spotted_fit grammar listed_grammar

spotted_start : (p : Spots) → has (firsts_of (spotted p lists) ((spotted p lists).start ∷ [])) 6 ≡ false
spotted_start p = refl

no_mark_first : has (firsts_of grammar (grammar.start ∷ [])) 6 ≡ false
no_mark_first = holds_listed (λ u. has (firsts_of u (u.start ∷ [])) 6 ≡ false) lists spotted_start grammar listed_grammar

closed : claims_are_closed grammar ≡ true
closed = (checks grammar grammar_is_checked).closed

-- ---- symbols of tokens

abbrev symbols : List Lexeme → List ℕ
symbols ts = map (λ (t : Lexeme). symbol_of t.kind) ts

symbols_are : (ts : List Lexeme) (e : Lexeme) → symbols_in (ts ++ e ∷ []) ≡ symbols ts
symbols_are [] e = refl
symbols_are (t ∷ []) e = refl
symbols_are (t ∷ u ∷ ts) e = ap (λ xs. symbol_of t.kind ∷ xs) (symbols_are (u ∷ ts) e)

abbrev IsInsideText : Lexeme → Type 0
IsInsideText t = IsInside V1993 t.kind t.text

inside : (ts : List Lexeme) (e : Lexeme) → AllByRecursion (IsPossible V1993) (ts ++ e ∷ []) → EndsOnce (ts ++ e ∷ []) → AllByRecursion IsInsideText ts
inside [] e all once = tt
inside (t ∷ []) e all once = ((all.0, once.0), tt)
inside (t ∷ u ∷ ts) e all once = ((all.0, once.0), inside (u ∷ ts) e all.1 once.1)

behind : (t : Lexeme) (ts : List Lexeme) → ArePairs may_touch (symbols (t ∷ ts)) → WordsHaveNoAttribute (t ∷ ts) → AllByRecursion IsInsideText ts → StandSideBySide V1993 (Some t.kind) ts
behind t [] pairs words all = tt
behind t (u ∷ ts) pairs words all = (all.0, neighbours t.kind u.kind pairs.0 words.0, behind u ts pairs.1 words.1 all.1)

module _ (ts : List Lexeme) (tree : Trees) (d : IsDerivation grammar tree) (yields : yield tree ≡ symbols ts) where
  pairs : ArePairs may_touch (symbols ts)
  pairs = subst (ArePairs may_touch) (append-nil (yield tree) ∙ yields) (chain may_touch grammar closed grammar_fits (grammar.start ∷ []) tree [] [] d refl refl tt tt)

from_first : (t : Lexeme) (ts : List Lexeme) (tree : Trees) → IsDerivation grammar tree → yield tree ≡ symbols (t ∷ ts) → eqb (symbol_of t.kind) 6 ≡ false
from_first t ts tree d yields =
    ⊎_elim (λ h. other (symbol_of t.kind) h) (λ h. absurd (no_list h.1)) (begins grammar closed (grammar.start ∷ []) tree [] (symbols ts) (symbol_of t.kind) d (append-nil (yield tree) ∙ yields))
  where
    other : (x : ℕ) → has (firsts_of grammar (grammar.start ∷ [])) x ≡ true → eqb x 6 ≡ false
    other x h = by (eqb x 6) refl
      where
        by : (b : Bool) → eqb x 6 ≡ b → b ≡ false
        by true e = absurd (true≢false (sym (subst (λ y. has (firsts_of grammar (grammar.start ∷ [])) y ≡ true) (eqb-true x 6 e) h) ∙ no_mark_first))
        by false e = refl

    no_list : [] ≡ symbol_of t.kind ∷ symbols ts → ⊥
    no_list f = cc

side_of : (ts : List Lexeme) (tree : Trees) → IsDerivation grammar tree → yield tree ≡ symbols ts → WordsHaveNoAttribute ts → AllByRecursion IsInsideText ts → StandSideBySide V1993 None ts
side_of [] tree d yields words all = tt
side_of (t ∷ ts) tree d yields words all = (all.0, first_fits t.kind (from_first t ts tree d yields), behind t ts (pairs (t ∷ ts) tree d yields) words all.1)

pub side_by_side : TokensStandSideBySide
side_by_side units h words =
    let ts = tokens_in (items_of units) in
    let e = lexeme End [] in
    let a = derived units h in
    side_of ts a.tree a.derivation.derived (a.derivation.yields ∙ symbols_are ts e) words (inside ts e (are_possible units h) (end_once units h))
