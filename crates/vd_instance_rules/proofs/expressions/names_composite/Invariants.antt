use Rattle.std.proofs.Common.{◌≡◌, ◌∷◌, List, drop, ℕ}
use Rattle.vd_known_designs.specs.Designs.{Knows}
use Rattle.vd_port_associations.specs.Numbers.{Holds}
use Rattle.vd_value_rules.specs.Actuals.{names_composite}
use Rattle.vd_value_rules.specs.Designs.{Design}
use Rattle.vd_value_rules.specs.Knowledge.{Known}
use Rattle.vd_instance_rules.proofs.expressions.names_composite.Given as goal

abbrev pub invariant-loop-number : goal.invariant-loop-number
invariant-loop-number l = (d : Design) (k : Known) (ks : List Known) (gs : List ℕ) → Knows d l.design (k ∷ ks) → Holds l.generics gs
    → names_composite k.env gs (drop l.number-index l.numbers) ≡ names_composite k.env gs l.numbers
