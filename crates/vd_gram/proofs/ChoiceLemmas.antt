-- Looking for the production that comes next.
use Rattle.std.proofs.Common.{◌≡◌, ℕ, ◌+◌, ◌<◌, ◌≤◌, true, false, length, get_or, Some, sym, ap, subst, ◌∙◌, below_more, arith}
use Rattle.std.proofs.lemmas.Bool.{eqb-true, eq-eqb, and_parts, both_ways, and_from}
use Rattle.std.proofs.lemmas.Option.{slice_get-get_or, slice_get_within}
use Rattle.vd_gram.specs.declared.tables.Production.{Production}
use Rattle.vd_gram.specs.declared.tables.Table.{Table}
use Rattle.vd_gram.specs.Claims.{has, signs_of}
use Rattle.vd_gram.specs.Runs.{IsChoice, IsNoChoice, tells}

module _ (t : Table) (nonterminal sign : ℕ) where
  -- none of the first productions is chosen
  pub record IsNoneBelow (i : ℕ) : Type 0 where
    pub below : (production : ℕ) → production < i → IsChoice t nonterminal sign production → ⊥

  pub none_yet : IsNoneBelow 0
  none_yet = record { below = λ k low c. omega (arith, low) }

  pub chosen_here : (i : ℕ) (p : Production) → i < length t.productions.now → p ≡ get_or t.productions.now i p
      → tells t nonterminal sign p ≡ true → IsChoice t nonterminal sign i
  chosen_here i p within stands told =
      let both = and_parts _ _ told in
      record { chosen = p; at = slice_get-get_or t.productions.now i p within ∙ ap Some (sym stands); left = eqb-true p.left nonterminal both.0; told = both.1 }

  none_here : (i : ℕ) (p : Production) → i < length t.productions.now → p ≡ get_or t.productions.now i p
      → (p.left ≡ nonterminal → has (signs_of t p) sign ≡ true → ⊥) → IsNoneBelow i → IsNoneBelow (i + 1)
  none_here i p within stands not_here so_far = record {
    below = λ k low c. go k low c;
  }
    where
      here : (c : IsChoice t nonterminal sign i) → ⊥
      here c =
          let same : Some c.chosen ≡ Some p = sym c.at ∙ slice_get-get_or t.productions.now i p within ∙ ap Some (sym stands) in
          let is : c.chosen ≡ p = cc in
          not_here (ap (λ z. z.left) (sym is) ∙ c.left) (subst (λ z. has (signs_of t z) sign ≡ true) is c.told)

      go : (k : ℕ) → k < i + 1 → IsChoice t nonterminal sign k → ⊥
      go k low c = below_more (λ k. IsChoice t nonterminal sign k → ⊥) i so_far.below here k low c

  pub no_sign : (i : ℕ) (p : Production) → i < length t.productions.now → p ≡ get_or t.productions.now i p
      → tells t nonterminal sign p ≡ false → IsNoneBelow i → IsNoneBelow (i + 1)
  no_sign i p within stands untold = none_here i p within stands (λ left told. both_ways _ untold (and_from _ _ (eq-eqb p.left nonterminal left) told))

  pub none_at_all : (i : ℕ) → length t.productions.now ≤ i → IsNoneBelow i → IsNoChoice t nonterminal sign
  none_at_all i past so_far = record { none = λ k c. so_far.below k (let within = slice_get_within t.productions.now k c.chosen c.at in omega (arith, within)) c }

pub ruleset finding = (none_yet, chosen_here, no_sign, none_at_all)

pub ruleset choices = (none_at_all)

-- a production that is chosen is one of the table
pub choice_within : (t : Table) (nonterminal sign k : ℕ) → IsChoice t nonterminal sign k → k < length t.productions.now
choice_within t nonterminal sign k c = slice_get_within t.productions.now k c.chosen c.at
