use Rattle.std.proofs.Common.{◌≡◌, drop}
use Rattle.vd_call_rules.specs.Reaches.{with_ends}
use Rattle.vd_call_rules.proofs.reaches.with_ends.Given as goal

abbrev pub invariant-loop-end : goal.invariant-loop-end
invariant-loop-end l = with_ends l.list.items (drop l.end-index l.more) ≡ with_ends l.ends l.more
