use Rattle.std.proofs.Common.{sym, ◌∙◌}
use Rattle.vd_operations.specs.declared.passing.Passing.TheVariants.{Choices}
use Rattle.vd_operations.proofs.PassingLemmas.{named_by, named_choices}
use Rattle.vd_operations.proofs.reading.named_first.Goals as goal

pub returns-in-Choices : goal.returns-in-Choices
returns-in-Choices c = λ t.
    let n = c.in-Some.first in
    c.declaration_of.ensures t
    ∙ sym (named_by t c.loop-first.rest n.form n.text.now n.place n.parts n.next Choices c.in-Some.ensures c.in-Choices.ensures ∙ named_choices t n.parts)
    ∙ c.loop-first.invariant t
