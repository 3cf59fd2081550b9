use Rattle.std.proofs.Common.{◌+◌, ◌-◌, vec_len}
use Rattle.vd_static_names.specs.Jumps.{AreJumps}
use Rattle.vd_static_names.proofs.indicated_fields.FieldTable.grow.Given as goal

abbrev pub invariant-loop-self : goal.invariant-loop-self
invariant-loop-self l = AreJumps l.self.jumps.items l.store

abbrev pub decreases-loop-self : goal.decreases-loop-self
decreases-loop-self l = l.number + 1 - vec_len l.self.jumps
