use Rattle.std.proofs.Common.{◌≡◌, ◌++◌, drop, map}
use Rattle.vd_call_rules.specs.Reaches.{further}
use Rattle.vd_call_rules.proofs.reaches.all_further.Given as goal

abbrev pub invariant-loop-end : goal.invariant-loop-end
invariant-loop-end l = l.list.items ++ map (further l.n) (drop l.end-index l.ends) ≡ map (further l.n) l.ends
