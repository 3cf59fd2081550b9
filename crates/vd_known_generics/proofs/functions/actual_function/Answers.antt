use Rattle.std.proofs.Common.{ap, sym, ◌∙◌}
use Rattle.vd_known_generics.proofs.ActualFunctionLemmas.{called_function}
use Rattle.vd_known_generics.specs.Actuals.{result_mark}
use Rattle.vd_meaning.specs.Tables.{followed}
use Rattle.vd_known_generics.proofs.functions.actual_function.Goals as goal

pub returns : goal.returns
returns c = λ d k ks knows.
    let f = c.followed-number.result in
    called_function d k c.args.design.now.table.subtypes c.args.copy f c.result_mark-mark.result c.marked.result c.calls_of.result c.operator_of.result
    (c.followed-number.ensures c.args.design.now.revision ∙ ap (λ t. followed t c.number.result) (sym knows.table) ∙ ap (followed d.table) c.number.ensures)
    (c.result_mark-mark.ensures ∙ ap (λ t. result_mark t f) (sym knows.table)) (c.marked.ensures d k ks knows) (c.calls_of.ensures d k ks knows) (c.operator_of.ensures d k ks knows)
