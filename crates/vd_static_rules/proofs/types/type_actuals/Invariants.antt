use Rattle.std.proofs.Common.{◌≡◌, ◌∷◌, List, ℕ}
use Rattle.std.specs.HashMap.{get}
use Rattle.std.specs.Prelude.{nat_eq}
use Rattle.vd_meaning.specs.Elaborations.{copied}
use Rattle.vd_forest.specs.Forest.{tree_count}
use Rattle.vd_known_designs.specs.Designs.{Knows}
use Rattle.vd_walks.specs.Least.{least_of, lesser}
use Rattle.vd_value_rules.specs.Designs.{Design}
use Rattle.vd_value_rules.specs.Knowledge.{Known}
use Rattle.vd_value_rules.specs.Types.{type_actuals}
use Rattle.vd_static_rules.proofs.types.type_actuals.Given as goal

abbrev pub invariant-loop-first : goal.invariant-loop-first
invariant-loop-first l =
    (d : Design) (k : Known) (ks : List Known) (cs : List (ℕ × ℕ)) → Knows d l.design (k ∷ ks) → ((n : ℕ) → get nat_eq l.copies n ≡ copied cs n)
    → lesser l.found (least_of (type_actuals d k.env cs l.left l.rest)) ≡ least_of (type_actuals d k.env cs l.generics l.elements)

abbrev pub decreases-loop-first : goal.decreases-loop-first
decreases-loop-first l = tree_count l.rest
