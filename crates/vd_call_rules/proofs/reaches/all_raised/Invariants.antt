use Rattle.std.proofs.Common.{◌≡◌, ◌++◌, drop, map}
use Rattle.vd_call_rules.specs.Reaches.{raised}
use Rattle.vd_call_rules.proofs.reaches.all_raised.Given as goal

abbrev pub invariant-loop-other : goal.invariant-loop-other
invariant-loop-other l = l.list.items ++ map (raised l.end) (drop l.other-index l.ends) ≡ map (raised l.end) l.ends
