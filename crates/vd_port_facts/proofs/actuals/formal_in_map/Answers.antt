use Rattle.std.proofs.Common.{sym, ◌∙◌}
use Rattle.vd_port_facts.proofs.ActualLemmas.{formal_in_map}
use Rattle.vd_port_facts.proofs.actuals.formal_in_map.Goals as goal

pub returns-in-Some : goal.returns-in-Some
returns-in-Some c = λ t.
    let n = c.in-Some.first in
    c.formal_by.ensures t ∙ sym (formal_in_map t c.args.trees.now n.form n.text.now n.place n.parts n.next c.in-Some.ensures)
