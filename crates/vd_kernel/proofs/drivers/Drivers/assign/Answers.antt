use Rattle.std.proofs.Common.{◌<◌, ◌∙◌, length, set, sym, ap, arith}
use Rattle.std.proofs.lemmas.List.{get_or_read}
use Rattle.vd_kernel.specs.Drivers.{Driver, no_driver}
use Rattle.vd_kernel.specs.Orders.{shape_of}
use Rattle.vd_kernel.specs.SignalValues.{nothing_given}
use Rattle.vd_kernel.specs.Simulated.{Simulated}
use Rattle.vd_kernel.proofs.Currents.{same_after_set, same_effective}
use Rattle.vd_kernel.proofs.drivers.Drivers.assign.Goals as goal

pub invariant_of-self : goal.invariant_of-self
invariant_of-self c =
    let inv = c.self.invariant in
    let m = shape_of c.self.inside.signals.items in
    let old = c.self.inside.lists.items in
    let n = c.number.result in
    let x = c.assign.new.self in
    let known = ap (λ (s : Simulated). length s.drivers) c.self.view_is in
    let within : n < length old = omega (arith, known, c.number.ensures, c.requires.driver) in
    let at = get_or_read old n c.index_mut.result.now within c.index_mut.ensures.value no_driver in
    let current = c.assign.ensures.current ∙ ap (λ (d : Driver). d.current) at in
    record {
      ring_free = inv.ring_free;
      inner = inv.inner;
      outer = inv.outer;
      driving_long = inv.driving_long;
      fresh_long = inv.fresh_long;
      effective_long = inv.effective_long;
      histories_long = inv.histories_long;
      effective_is = λ i. inv.effective_is i ∙ sym (same_effective (set old n x) old (same_after_set old n x within current) m nothing_given i);
    }
