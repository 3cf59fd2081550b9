use Rattle.std.proofs.Common.{◌∙◌}
use Rattle.std.proofs.lemmas.Result.{IfOk-weaker}
use Rattle.vd_port_facts.proofs.ActualLemmas.{actuals_first}
use Rattle.vd_port_facts.proofs.actuals.actuals_of_first.Goals as goal

pub returns-in-Some : goal.returns-in-Some
returns-in-Some c =
    let n = c.in-Some.first in
    IfOk-weaker c.actuals_by.result _ _
    (λ found h t. h t ∙ actuals_first t c.args.trees.now n.form n.text.now n.place n.parts n.next c.in-Some.ensures) c.actuals_by.ensures
