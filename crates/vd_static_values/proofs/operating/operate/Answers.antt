use Rattle.std.proofs.Common.{subst, sym, ◌∙◌}
use Rattle.vd_value_rules.specs.Indicated.{indicated_in}
use Rattle.vd_operations.specs.Readings.{read_operation}
use Rattle.vd_plain_values.specs.Operands.{AreArguments}
use Rattle.vd_static_values.proofs.OperationLemmas.{are_standing, operated, standing}
use Rattle.vd_static_values.proofs.operating.operate.Goals as goal

pub returns : goal.returns
returns c = λ as' are.
    let operands = c.args.operands.now in
    let there : AreArguments (standing operands) c.deref.result.now =
    subst (AreArguments (standing operands)) (sym (c.deref.ensures.value ∙ c.in_ok-operands.ensures)) (are_standing operands) in
    operated (read_operation c.args.operation.now) (indicated_in c.args.of_result.now).subtype as' operands c.in_ok-value.value c.unless_stopped.result are
    (c.in_ok-value.ensures (indicated_in c.args.of_result.now).subtype c.in_ok-array.ensures (standing operands) there) c.unless_stopped.ensures
