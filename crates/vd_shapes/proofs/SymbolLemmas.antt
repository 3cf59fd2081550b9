-- Symbols of tokens.
use Rattle.std.proofs.Common.{◌≡◌, ℕ, zero, suc, ◌+◌, ◌-◌, ◌<◌, ◌≤◌, List, [], ◌∷◌, ◌++◌, length, take, Some, slice_get, refl, sym, ap, ◌∙◌, arith}
use Rattle.std.proofs.lemmas.List.{take_all}
use Rattle.vd_tokens.specs.Lexemes.{Lexeme}
use Rattle.vd_tokens.specs.Spellings.{EndsOnce}
use Rattle.vd_gram.specs.declared.tables.Table.{Table}
use Rattle.vd_gram.specs.Derivations.{IsRefused}
use Rattle.vd_shapes.specs.Reading.{symbol_of, symbols_in}

more : (ts : List Lexeme) (n : ℕ) (t : Lexeme) → suc n < length ts → slice_get ts n ≡ Some t
    → symbols_in (take (suc (suc n)) ts) ≡ symbols_in (take (suc n) ts) ++ symbol_of t.kind ∷ []
more [] n t within at = absurd (omega (arith, within))
more (x ∷ []) n t within at = absurd (omega (arith, within))
more (x ∷ y ∷ ts) zero t within at = let same : x ≡ t = cc in ap (λ l. symbol_of l.kind ∷ []) same
more (x ∷ y ∷ ts) (suc n) t within at = ap (λ l. symbol_of x.kind ∷ l) (more (y ∷ ts) n t (omega (arith, within)) at)

pub symbols_more : (ts : List Lexeme) (n : ℕ) (t : Lexeme) → 0 < n → n < length ts → slice_get ts (n - 1) ≡ Some t
    → symbols_in (take (n + 1) ts) ≡ symbols_in (take n ts) ++ symbol_of t.kind ∷ []
symbols_more ts zero t some within at = absurd (omega (arith, some))
symbols_more ts (suc n) t some within at =
    let before : suc n - 1 ≡ n = omega arith in
    let after : suc n + 1 ≡ suc (suc n) = omega arith in
    ap (λ k. symbols_in (take k ts)) after ∙ more ts n t within (sym (ap (slice_get ts) before) ∙ at)

pub symbols_all : (ts : List Lexeme) (n : ℕ) → length ts ≤ n → symbols_in (take n ts) ≡ symbols_in ts
symbols_all ts n past = ap symbols_in (take_all n ts past)

pub symbols_none : (ts : List Lexeme) → symbols_in (take 1 ts) ≡ []
symbols_none [] = refl
symbols_none (x ∷ ts) = refl

pub ruleset symbols = (symbols_none, symbols_all)

symbols_long : (ts : List Lexeme) → EndsOnce ts → length (symbols_in ts) + 1 ≡ length ts
symbols_long [] e = absurd e
symbols_long (t ∷ []) e = refl
symbols_long (t ∷ u ∷ ts) e = omega (arith, symbols_long (u ∷ ts) e.1)

-- a hopeless place is that of a token, the end being one
pub refused_within : (t : Table) (ts : List Lexeme) (deep n : ℕ) → EndsOnce ts → IsRefused t (symbols_in ts) deep n → n < length ts
refused_within t ts deep n e r = omega (arith, symbols_long ts e, r.hopeless.within)
