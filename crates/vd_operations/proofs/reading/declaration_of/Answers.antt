use Rattle.std.proofs.Common.{ap, sym, ◌∙◌, refl}
use Rattle.vd_operations.specs.declared.passing.Passing.TheVariants.{Last}
use Rattle.vd_operations.proofs.PassingLemmas.{declared_at, declared_last}
use Rattle.vd_operations.proofs.reading.declaration_of.Goals as goal

pub loop-first-preserved : goal.loop-first-preserved
loop-first-preserved c = λ t.
    let n = c.in-Some.first in
    ap (declared_at t) c.last-rest.ensures.is
    ∙ declared_last t c.loop-first.rest n.form n.text.now n.place n.parts n.next Last c.in-Some.ensures c.in-Last.ensures refl (sym c.if-is_some.ensures)
    ∙ c.loop-first.invariant t
