use Rattle.std.proofs.Common.{◌≡◌, take}
use Rattle.vd_trees.specs.Identifiers as identifiers
use Rattle.vd_first_runs.proofs.tops.lowered.Given as goal

abbrev pub invariant-loop-b : goal.invariant-loop-b
invariant-loop-b l = l.lowered.items ≡ identifiers.lowered (take l.b-index l.text)
