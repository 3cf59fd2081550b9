use Rattle.vd_first_runs.proofs.ShapeLemmas.{added_outside}
use Rattle.vd_first_runs.proofs.shapes.add_outside.Goals as goal

pub loop-first-preserved : goal.loop-first-preserved
loop-first-preserved c =
    let first = c.in-Some.first in
    added_outside c.loop-first.drivers.items c.add_declared.new.drivers.items _ c.loop-first.left first.form first.text.now first.place first.parts first.next c.in-Some.ensures c.in_ok-add_declared.ensures c.loop-first.invariant
