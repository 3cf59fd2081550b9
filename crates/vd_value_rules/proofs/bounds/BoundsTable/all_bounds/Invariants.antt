use Rattle.std.proofs.Common.{◌+◌, ◌-◌, vec_len}
use Rattle.vd_value_rules.specs.TreeBounds.{IsTableOf}
use Rattle.vd_value_rules.proofs.bounds.BoundsTable.all_bounds.Given as goal

abbrev pub invariant-loop-self : goal.invariant-loop-self
invariant-loop-self l = IsTableOf l.self.entries.items l.store

abbrev pub decreases-loop-self : goal.decreases-loop-self
decreases-loop-self l = l.number + 1 - vec_len l.self.entries
