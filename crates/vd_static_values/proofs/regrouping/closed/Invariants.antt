use Rattle.std.proofs.Common.{vec_len, ◌≡◌}
use Rattle.vd_static_values.specs.Levels.{closed, lists_in}
use Rattle.vd_static_values.proofs.regrouping.closed.Given as goal

abbrev pub invariant-loop-arrays : goal.invariant-loop-arrays
invariant-loop-arrays l = closed (lists_in l.outer.items) l.values.items ≡ closed (lists_in l.initial.outer.items) l.initial.values.items

abbrev pub decreases-loop-arrays : goal.decreases-loop-arrays
decreases-loop-arrays l = vec_len l.outer
