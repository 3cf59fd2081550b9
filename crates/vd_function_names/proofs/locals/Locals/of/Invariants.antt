use Rattle.std.proofs.Common.{◌≡◌, ℕ, false, nat_eq, take}
use Rattle.std.specs.HashMap.{get}
use Rattle.std.specs.Option.{unwrap_or}
use Rattle.vd_function_names.proofs.locals.Locals.of.Given as goal
use Rattle.vd_value_rules.specs.Designs.{is_listed}

abbrev pub invariant-loop-number : goal.invariant-loop-number
invariant-loop-number l = (k : ℕ) → unwrap_or (get nat_eq l.table k) false ≡ is_listed k (take l.number-index l.number-items)
