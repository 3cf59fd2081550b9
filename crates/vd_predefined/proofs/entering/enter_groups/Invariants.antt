use Rattle.std.proofs.Common.{◌≡◌, true, drop}
use Rattle.vd_predefined.specs.Operators.{with_groups}
use Rattle.vd_predefined.specs.Clashes.{clash_of_groups}
use Rattle.vd_predefined.proofs.entering.enter_groups.Given as goal

abbrev pub invariant-loop-group : goal.invariant-loop-group
invariant-loop-group l = record {
  same : with_groups l.regions l.region l.class l.operands (drop l.group-index l.groups)
      ≡ with_groups l.fn.regions l.region l.class l.operands l.groups;
  same_clash : l.checked ≡ true → clash_of_groups l.regions l.region l.class l.operands (drop l.group-index l.groups)
      ≡ clash_of_groups l.fn.regions l.region l.class l.operands l.groups;
}
