use Rattle.std.proofs.Common.{◌≡◌, drop}
use Rattle.std.specs.List.{list_any}
use Rattle.vd_call_rules.specs.Reaches.{is_long_end}
use Rattle.vd_call_rules.proofs.reaches.has_long_end.Given as goal

abbrev pub invariant-loop-end : goal.invariant-loop-end
invariant-loop-end l = list_any is_long_end (drop l.end-index l.ends) ≡ list_any is_long_end l.ends
