use Rattle.std.proofs.Common.{sym, ◌∙◌}
use Rattle.vd_meaning.specs.Operators.{function_of, operate, operation}
use Rattle.vd_static_values.specs.Entries.{table_of}
use Rattle.vd_static_parts.proofs.CallLemmas.{found_same, predefined_value}
use Rattle.vd_static_parts.proofs.calls.call_value.Goals as goal

pub returns-then-is_predefined : goal.returns-then-is_predefined
returns-then-is_predefined c = λ e as' ground are local.
    let t = table_of c.args.ground.now in
    let n = c.args.number in
    found_same c.operator_value.result (operate (operation t n) (t.declared n).mark e as') (function_of t n e as')
    (predefined_value t n e as' (sym c.is_predefined.ensures ∙ c.if-is_predefined.true)) (c.operator_value.ensures e as' ground are)
