use Rattle.std.proofs.Common.{◌≡◌, true, map, drop}
use Rattle.vd_predefined.specs.Seen.{seen_operator}
use Rattle.vd_predefined.specs.Operators.{with_group}
use Rattle.vd_predefined.specs.Clashes.{clash_of_group}
use Rattle.vd_predefined.proofs.entering.enter_group.Given as goal

abbrev pub invariant-loop-operator : goal.invariant-loop-operator
invariant-loop-operator l = record {
  same : with_group l.regions l.region l.class l.operands (map seen_operator (drop l.operator-index l.group))
      ≡ with_group l.fn.regions l.region l.class l.operands (map seen_operator l.group);
  same_clash : l.checked ≡ true → clash_of_group l.regions l.region l.class l.operands (map seen_operator (drop l.operator-index l.group))
      ≡ clash_of_group l.fn.regions l.region l.class l.operands (map seen_operator l.group);
}
