use Rattle.std.proofs.Common.{◌≡◌, drop, suc, ℕ}
use Rattle.vd_walks.specs.Least.{lesser}
use Rattle.vd_port_associations.specs.Agreement.{all_rules, first_rule}
use Rattle.vd_port_modes.specs.Source.{design_in}
use Rattle.vd_port_associations.proofs.elements.refused_pairs.Given as goal

abbrev pub invariant-loop-pair : goal.invariant-loop-pair
invariant-loop-pair l =
    (n : ℕ)
    → lesser (lesser (first_rule l.place (all_rules n (design_in l.interfaces) l.coming.keys)) l.found)
    (first_rule l.place (all_rules (suc n) (design_in l.interfaces) (drop l.pair-index l.pairs)))
    ≡ lesser (first_rule l.place (all_rules n (design_in l.interfaces) l.initial.coming.keys))
    (first_rule l.place (all_rules (suc n) (design_in l.interfaces) l.pairs))
