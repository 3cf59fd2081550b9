use Rattle.vd_kernel.specs.Orders.{shape_of}
use Rattle.vd_kernel.specs.SignalValues.{nothing_given}
use Rattle.vd_kernel.specs.Values.{driving, effective}
use Rattle.vd_kernel.proofs.Equations.{meet_equations}
use Rattle.vd_kernel.proofs.values.settle.Goals as goal

pub returns : goal.returns
returns c =
    let m = shape_of c.args.signals.now in
    let ds = c.args.drivers.now in
    let free = c.requires.ring_free in
    let are = meet_equations free.inwards free.outwards m free.ranked nothing_given ds in
    c.spread.ensures (driving m nothing_given ds) (effective m nothing_given ds) are.outer_is (c.drive.ensures (driving m nothing_given ds) are.own_is)
