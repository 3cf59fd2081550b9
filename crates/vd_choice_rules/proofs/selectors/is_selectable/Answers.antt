use Rattle.vd_choice_rules.proofs.SelectorLemmas.{selectable_before}
use Rattle.vd_choice_rules.proofs.selectors.is_selectable.Goals as goal

pub returns : goal.returns
returns c = λ d r revision is.
    let n = c.in-Some.first in
    selectable_before d c.args.selector.now n.form n.text.now n.place n.parts n.next c.args.revision c.is_2019.result c.is_selectable_before.result c.in-Some.ensures revision
    c.is_2019.ensures c.if-is_2019.false (c.is_selectable_before.ensures d r is)
