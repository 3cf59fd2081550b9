use Rattle.std.proofs.Common.{◌≡◌, drop}
use Rattle.std.specs.List.{list_any}
use Rattle.vd_call_rules.specs.Reaches.{is_end_of}
use Rattle.vd_call_rules.proofs.reaches.has_end_of.Given as goal

abbrev pub invariant-loop-end : goal.invariant-loop-end
invariant-loop-end l = list_any (is_end_of l.generic) (drop l.end-index l.ends) ≡ list_any (is_end_of l.generic) l.ends
