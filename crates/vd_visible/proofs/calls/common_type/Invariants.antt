use Rattle.std.proofs.Common.{◌≡◌, drop}
use Rattle.std.specs.List.{list_all}
use Rattle.vd_visible.specs.Types.{is_some_type}
use Rattle.vd_visible.proofs.calls.common_type.Given as goal

abbrev pub invariant-loop-other : goal.invariant-loop-other
invariant-loop-other l = list_all (is_some_type l.mark) (drop l.other-index l.others) ≡ list_all (is_some_type l.mark) l.others
