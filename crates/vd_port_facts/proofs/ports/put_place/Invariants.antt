use Rattle.std.proofs.Common.{◌≡◌, ℕ, Some, cond, nat_eq, take}
use Rattle.std.specs.HashMap.{get}
use Rattle.vd_value_rules.specs.Designs.{is_listed}
use Rattle.vd_port_facts.proofs.ports.put_place.Given as goal

abbrev pub invariant-loop-number : goal.invariant-loop-number
invariant-loop-number l = (n : ℕ) → get nat_eq l.places n ≡ cond (is_listed n (take l.number-index l.numbers)) (Some l.place) (get nat_eq l.fn.places n)
