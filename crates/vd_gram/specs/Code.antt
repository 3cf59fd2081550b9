-- How the logic stores trees, so that it can tell two of them apart.
use Rattle.std.specs.Prelude.{◌≡◌, ℕ, refl}
use Rattle.std.specs.Coded.{Coded}
use Rattle.std.proofs.Common.{sym, ap, subst}
use base.Stored.{Gv, gnil, gnum, gcons}
use Rattle.vd_gram.specs.Derivations.{Trees, nothing, leaf, node}

-- ---- the halves of a stored pair

abbrev first : Gv → Gv
first gnil = gnil
first (gnum n) = gnil
first (gcons a b) = a

abbrev second : Gv → Gv
second gnil = gnil
second (gnum n) = gnil
second (gcons a b) = b

abbrev number : Gv → ℕ
number gnil = 0
number (gnum n) = n
number (gcons a b) = 0

abbrev IsPair : Gv → Type 0
IsPair gnil = ⊥
IsPair (gnum n) = ⊥
IsPair (gcons a b) = Unit {0}

-- a leaf is stored as its symbol, its place and what comes next, and a node as its production with its parts and what comes next
abbrev stored : Trees → Gv
stored nothing = gnil
stored (leaf symbol place next) = gcons (gnum symbol) (gcons (gnum place) (stored next))
stored (node production parts next) = gcons (gcons (gnum production) (stored parts)) (stored next)

pub stored_inj : (f g : Trees) → stored f ≡ stored g → f ≡ g
stored_inj nothing nothing e = refl
stored_inj nothing (leaf s p n) e = absurd (subst IsPair (sym e) tt)
stored_inj nothing (node k ps n) e = absurd (subst IsPair (sym e) tt)
stored_inj (leaf s p n) nothing e = absurd (subst IsPair e tt)
stored_inj (leaf s p n) (leaf s' p' n') e = λ i.
    leaf (number (first (e i))) (number (first (second (e i)))) (stored_inj n n' (ap (λ g. second (second g)) e) i)
stored_inj (leaf s p n) (node k ps m) e = absurd (subst IsPair (sym (ap first e)) tt)
stored_inj (node k ps n) nothing e = absurd (subst IsPair e tt)
stored_inj (node k ps n) (leaf s p m) e = absurd (subst IsPair (ap first e) tt)
stored_inj (node k ps n) (node k' ps' n') e = λ i.
    node (number (first (first (e i)))) (stored_inj ps ps' (ap (λ g. second (first g)) e) i) (stored_inj n n' (ap second e) i)

abbrev pub coded_trees : Coded Trees
coded_trees = record { code = stored; inj = stored_inj }
