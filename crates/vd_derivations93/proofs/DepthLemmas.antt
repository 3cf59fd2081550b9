-- The depth of a derivation, between two limits.
use Rattle.std.proofs.Common.{◌≡◌, ◌<◌, ◌≤◌, ℕ, zero, suc, ◌+◌, min, max, true, if◌then◌else◌, slice_get, List, [], ◌∷◌, drop, refl, sym, ap, ◌∙◌, subst, arith}
use Rattle.std.proofs.lemmas.List.{take-append-drop}
use Rattle.vd_gram.specs.declared.tables.Table.{Table}
use Rattle.vd_gram.specs.declared.tables.Production.{Production}
use Rattle.vd_gram.specs.Claims.{has, is_checked}
use Rattle.vd_gram.specs.Derivations.{Trees, nothing, leaf, node, unplaced, with_end, IsTooDeep, IsRefused, mark, mark_of, depth}
use Rattle.vd_gram.specs.Same.{AreSameProductions, IsSameGrammar}
use Rattle.vd_gram.proofs.SameLemmas.{say_the_same}
use Rattle.vd_gram.proofs.UniqueLemmas.{one_unplaced, shallow_depth}
use Rattle.vd_gram.proofs.FrontLemmas.{deep_there}
use Rattle.vd_tokens.specs.Lexemes.{Lexeme}
use Rattle.vd_forest.specs.Forest.{Forest}
use Rattle.vd_forms.specs.declared.form.Form.{Form}
use Rattle.vd_shapes.specs.declared.actions.Action.{Action}
use Rattle.vd_shapes.specs.Reading.{symbols_in}
use Rattle.vd_templates.specs.Templates.{tokens_of}
use Rattle.vd_derivations.specs.Laws.{AreDerived}
use Rattle.vd_grammar93.specs.Grammar.{grammar}
use Rattle.vd_derivations93.specs.Depths.{IsText, HasParse, bounded_depth, IsDepth, IsBetween, IsDepthOf}

pub depth_unplaced : (t : Table) (f : Trees) → depth t (unplaced f) ≡ depth t f
depth_unplaced t nothing = refl
depth_unplaced t (leaf s p n) = depth_unplaced t n
depth_unplaced t (node q a n) = λ i. max (mark_of t q + depth_unplaced t a i) (depth_unplaced t n i)

-- symbols with a derivation are refused nowhere
pub not_refused : (t : Table) (symbols : List ℕ) → IsText t symbols → (deep place : ℕ) → IsRefused t symbols deep place → ⊥
not_refused t symbols text deep place h =
    h.hopeless.hopeless (record {
      tree = text.tree;
      rest = drop (place + 1) (with_end symbols);
      derived = text.derived;
      begins = ap with_end text.yields ∙ sym (take-append-drop (place + 1) (with_end symbols));
    })

between_start : (n : ℕ) → min n 4294967295 ≤ 4294967295
between_start n = omega arith

pub start : (t : Table) (symbols : List ℕ) → IsBetween t symbols 0 4294967295
start t symbols = record { above = λ tree d e. omega arith; below = λ tree d e. between_start (depth t tree) }

above_limit : (deep high n : ℕ) → deep < high → high ≤ 4294967295 → deep < n → deep + 1 ≤ min n 4294967295
above_limit deep high n a b c = omega arith

below_limit : (deep n : ℕ) → n ≤ deep → min n 4294967295 ≤ deep
below_limit deep n a = omega arith

module _ (t : Table) (checked : is_checked t ≡ true) (symbols : List ℕ) where
  pub deeper : (low high deep : ℕ) → deep < high → high ≤ 4294967295 → IsBetween t symbols low high → IsTooDeep t symbols deep → IsBetween t symbols (deep + 1) high
  deeper low high deep within fits b too = record {
    above = λ tree d e. above_limit deep high (depth t tree) within fits (deep_there t checked tree deep d (subst (λ ss. IsTooDeep t ss deep) (sym e) too));
    below = b.below;
  }

  pub no_deeper : (low high deep : ℕ) → IsBetween t symbols low high → HasParse t symbols deep → IsBetween t symbols low deep
  no_deeper low high deep b h = record {
    above = b.above;
    below = λ tree d e.
        let same = one_unplaced t checked h.tree tree h.parse.derived d (h.parse.yields ∙ sym e) in
        below_limit deep (depth t tree)
        (subst (λ n. n ≤ deep) (sym (depth_unplaced t h.tree) ∙ ap (depth t) same ∙ depth_unplaced t tree) (shallow_depth t symbols deep h.tree h.parse));
  }

meet : (a b m : ℕ) → b ≤ a → a ≤ m → m ≤ b → a ≡ m
meet a b m x y z = omega arith

pub ended : (t : Table) (symbols : List ℕ) (low high : ℕ) → high ≤ low → IsBetween t symbols low high → IsDepth t symbols low
ended t symbols low high l b = record { is = λ tree d e. meet low high (bounded_depth t tree) l (b.above tree d e) (b.below tree d e) }

-- ---- tables with one grammar

marks : (t u : Table) → t.marked.now ≡ u.marked.now → (k : ℕ) (ps qs : List Production) → AreSameProductions ps qs → mark t (slice_get ps k) ≡ mark u (slice_get qs k)
marks t u m k [] [] same = refl
marks t u m k [] (q ∷ qs) same = absurd same
marks t u m k (p ∷ ps) [] same = absurd same
marks t u m zero (p ∷ ps) (q ∷ qs) same = λ i. if has (m i) (same.0 i) then 1 else 0
marks t u m (suc k) (p ∷ ps) (q ∷ qs) same = marks t u m k ps qs same.2

module _ (t u : Table) (s : IsSameGrammar t u) where
  depth_same : (f : Trees) → depth t f ≡ depth u f
  depth_same nothing = refl
  depth_same (leaf x p n) = depth_same n
  depth_same (node q a n) = λ i. max (marks t u s.marked q t.productions.now u.productions.now s.productions i + depth_same a i) (depth_same n i)

  pub text_there : (symbols : List ℕ) → IsText u symbols → IsText t symbols
  text_there symbols h = record { tree = h.tree; derived = (say_the_same t u s symbols 0).1.derivations h.tree h.derived; yields = h.yields }

  pub depth_there : (symbols : List ℕ) (n : ℕ) → IsDepth t symbols n → IsDepth u symbols n
  depth_there symbols n h = record {
    is = λ tree d e. h.is tree ((say_the_same t u s symbols 0).1.derivations tree d) e ∙ ap (λ k. min k 4294967295) (depth_same tree);
  }

-- ---- designs

pub design_text : (t : Table) (acts : List Action) (units : Forest Form) (tokens : List Lexeme) → AreDerived t acts units → tokens ≡ tokens_of units → IsText t (symbols_in tokens)
design_text t acts units tokens d e = record { tree = d.tree; derived = d.derivation.derived; yields = d.derivation.yields ∙ ap symbols_in (sym e) }

pub design_depth : (units : Forest Form) (tokens : List Lexeme) (n : ℕ) → tokens ≡ tokens_of units → IsDepth grammar (symbols_in tokens) n → IsDepthOf units n
design_depth units tokens n e h = record { is = λ tree d. h.is tree d.derived (d.yields ∙ ap symbols_in (sym e)) }
