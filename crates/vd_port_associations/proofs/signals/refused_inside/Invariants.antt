use Rattle.std.proofs.Common.{◌≡◌, length, suc}
use Rattle.vd_walks.specs.Least.{lesser}
use Rattle.vd_port_associations.specs.Agreement.{all_rules, first_rule, pair_rules}
use Rattle.vd_port_modes.specs.Source.{design_in}
use Rattle.vd_port_associations.proofs.signals.refused_inside.Given as goal

abbrev pub decreases-loop-left : goal.decreases-loop-left
decreases-loop-left l = l.left

abbrev pub invariant-loop-left : goal.invariant-loop-left
invariant-loop-left l =
    lesser l.found (first_rule l.place (all_rules l.left (design_in l.interfaces) l.pairs.keys))
    ≡ first_rule l.place (pair_rules (suc (suc (length (design_in l.interfaces).units.views))) (design_in l.interfaces) l.fn.pair)
