use Rattle.std.proofs.Common.{◌≡◌, ◌||◌, ℕ, false, nat_eq, take}
use Rattle.std.specs.HashMap.{get}
use Rattle.std.specs.Option.{unwrap_or}
use Rattle.vd_value_rules.specs.Designs.{is_listed}
use Rattle.vd_port_facts.proofs.needs.mark.Given as goal

abbrev pub invariant-loop-number : goal.invariant-loop-number
invariant-loop-number l = (k : ℕ) → unwrap_or (get nat_eq l.marks k) false ≡ (is_listed k (take l.number-index l.numbers) || unwrap_or (get nat_eq l.fn.marks k) false)
