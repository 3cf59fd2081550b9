use Rattle.std.proofs.Common.{◌≡◌, drop, ℕ}
use Rattle.vd_bytes.specs.declared.places.Place.{Place}
use Rattle.vd_walks.specs.Least.{lesser}
use Rattle.vd_port_associations.proofs.PairLemmas.{named_rules}
use Rattle.vd_port_associations.specs.Agreement.{all_rules, first_rule, read_side}
use Rattle.vd_port_modes.specs.Source.{design_in}
use Rattle.vd_port_modes.specs.Tables.{names_listed}
use Rattle.vd_value_rules.specs.Actuals.{disagree_inside}
use Rattle.vd_port_associations.proofs.elements.add_elements.Given as goal

abbrev pub invariant-loop-element : goal.invariant-loop-element
invariant-loop-element l =
    (n : ℕ) (place : Place)
    → lesser (first_rule place (all_rules n (design_in l.interfaces) l.pairs.keys))
    (first_rule place (named_rules (disagree_inside n (design_in l.interfaces)) (design_in l.interfaces) (read_side l.pair.formal) (read_side l.pair.actual)
    (names_listed (drop l.element-index l.element-items))))
    ≡ lesser (first_rule place (all_rules n (design_in l.interfaces) l.initial.pairs.keys))
    (first_rule place (named_rules (disagree_inside n (design_in l.interfaces)) (design_in l.interfaces) (read_side l.pair.formal) (read_side l.pair.actual)
    (names_listed l.element-items)))
