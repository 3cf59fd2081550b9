use Rattle.std.proofs.Common.{List, Option, ap, subst, sym, ◌∙◌}
use Rattle.vd_composites.specs.Composites.{Value}
use Rattle.vd_meaning.specs.Brackets.{arguments_for}
use Rattle.vd_meaning.specs.Facets.{known_of}
use Rattle.vd_meaning.specs.Names.{calls_known}
use Rattle.vd_static_values.specs.Entries.{table_of}
use Rattle.vd_static_names.proofs.StopLemmas.{left_true, right_true}
use Rattle.vd_static_nodes.proofs.ArgumentLemmas.{arguments_found}
use Rattle.vd_static_nodes.specs.Arguments.{values_for}
use Rattle.vd_static_values.specs.Operands.{AreOperands}
use Rattle.vd_values.specs.declared.scalar.Scalar.{Scalar}
use Rattle.vd_static_nodes.proofs.brackets.result_of_call.Goals as goal

pub returns : goal.returns
returns c = λ e ms ground nodes known local.
    let t = table_of c.args.ground.now in
    let f = c.args.function in
    let ps = (t.declared f).parameters in
    let calls = left_true (calls_known t f e).is_local (known_of ms e).is_local local in
    let own = right_true (calls_known t f e).is_local (known_of ms e).is_local local in
    let found = arguments_found c.args.ground.now.subtypes.now e 0 ps c.args.parts.now ms nodes own in
    let same =
    c.deref.ensures.value ∙ c.in_ok-operands.ensures ∙ ap (λ qs. values_for 0 qs c.args.parts.now) c.parameters_of-parameters.ensures in
    c.call_value.ensures e (arguments_for 0 ps ms e) ground
    (subst (λ (xs : List (Option (Value Scalar))). AreOperands (arguments_for 0 ps ms e) xs) (sym same) found) calls
