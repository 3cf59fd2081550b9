use Rattle.std.proofs.Common.{◌≡◌, ◌∷◌, List, [], drop, take}
use Rattle.vd_instance_rules.specs.Instances.{design_at, port_map_at, ports_for, read_associations}
use Rattle.vd_known_designs.specs.Designs.{Knows}
use Rattle.vd_port_associations.specs.Numbers.{Holds}
use Rattle.vd_value_rules.specs.Groups.{firsts_of, joined_firsts}
use Rattle.vd_value_rules.specs.Actuals.{all_associations_broken}
use Rattle.vd_value_rules.specs.Designs.{Design}
use Rattle.vd_value_rules.specs.Knowledge.{Known}
use Rattle.vd_instance_rules.proofs.associations.associations_refusals.Given as goal

abbrev pub invariant-loop-association : goal.invariant-loop-association
invariant-loop-association l = record {
  knows : (d : Design) (ks : List Known) → Knows d l.fn.design ks → Knows d l.design ks;
  seen : Holds l.seen (ports_for (read_associations (take l.association-index l.associations)));
  found : (k : Known) (ks : List Known) → Knows (design_at l.instance) l.fn.design (k ∷ ks)
      → joined_firsts l.found (firsts_of (all_associations_broken (design_at l.instance) k.env (port_map_at l.instance)
      (read_associations (take l.association-index l.associations)) (read_associations (drop l.association-index l.associations))))
      ≡ firsts_of (all_associations_broken (design_at l.instance) k.env (port_map_at l.instance) [] (read_associations l.associations));
}
