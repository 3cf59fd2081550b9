use Rattle.vd_choice_rules.proofs.SelectorLemmas.{further_piece, last_piece}
use Rattle.std.proofs.Common.{◌∙◌}
use Rattle.vd_choice_rules.proofs.selectors.ends_in_conversion.Goals as goal

pub returns-then-is_last : goal.returns-then-is_last
returns-then-is_last c = λ d r is.
    let n = c.in-Some.first in
    last_piece d c.loop-first.rest n.form n.text.now n.place n.parts n.next c.is_last.result c.is_conversion.result c.in-Some.ensures c.is_last.ensures c.if-is_last.true
    (c.is_conversion.ensures d r is) ∙ c.loop-first.invariant d

pub loop-first-preserved : goal.loop-first-preserved
loop-first-preserved c = λ d.
    let n = c.in-Some.first in
    further_piece d c.loop-first.rest n.form n.text.now n.place n.parts n.next c.is_last.result c.in-Some.ensures c.is_last.ensures c.if-is_last.false
    ∙ c.loop-first.invariant d
