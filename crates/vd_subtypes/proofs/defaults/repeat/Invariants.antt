use Rattle.std.proofs.Common.{◌≡◌}
use Rattle.vd_composites.specs.Composites.{repeated}
use Rattle.vd_subtypes.proofs.defaults.repeat.Given as goal

abbrev pub invariant-loop-place : goal.invariant-loop-place
invariant-loop-place l = l.items ≡ repeated l._place l.value
