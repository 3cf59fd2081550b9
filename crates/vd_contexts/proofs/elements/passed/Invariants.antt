use Rattle.std.proofs.Common.{◌++◌, ◌≡◌, ◌∷◌, ◌&&◌, List, drop}
use Rattle.vd_forest.specs.Forest.{size}
use Rattle.vd_known_designs.specs.Designs.{Knows}
use Rattle.vd_meaning.specs.Meanings.{meanings}
use Rattle.vd_contexts.specs.Standing.{standings_in}
use Rattle.vd_value_rules.specs.Designs.{Design}
use Rattle.vd_value_rules.specs.Knowledge.{Known}
use Rattle.vd_value_rules.specs.Standings.{is_bounded_object, passed as all_passed}
use Rattle.vd_contexts.proofs.elements.passed.Given as goal

abbrev pub invariant-loop-first : goal.invariant-loop-first
invariant-loop-first l = (d : Design) (k : Known) (ks : List Known) → Knows d l.fn.design (k ∷ ks)
    → standings_in d l.made.items ++ all_passed (λ n. l.fn.gives_bounds && is_bounded_object k.env n) (drop l.at l.fn.numbers) (meanings d.table l.rest)
    ≡ all_passed (λ n. l.fn.gives_bounds && is_bounded_object k.env n) l.fn.numbers (meanings d.table l.fn.elements)

abbrev pub decreases-loop-first : goal.decreases-loop-first
decreases-loop-first l = size l.rest
