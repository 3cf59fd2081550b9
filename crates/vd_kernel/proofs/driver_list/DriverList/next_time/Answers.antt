use Rattle.std.proofs.Common.{◌≡◌, ◌∙◌, sym, ap, Some}
use Rattle.std.specs.List.{slice_get}
use Rattle.vd_kernel.proofs.FirstTransactions.{first_is_least}
use Rattle.vd_kernel.specs.Drivers.{Driver}
use Rattle.vd_kernel.specs.Cycles.{least, times}
use Rattle.vd_kernel.proofs.driver_list.DriverList.next_time.Goals as goal

pub returns-in-Some : goal.returns-in-Some
returns-in-Some c =
    let e : slice_get c.self.inside.waiting.items 0 ≡ Some c.in-Some.t.now = ap (λ ts. slice_get ts 0) (sym c.deref.ensures.value) ∙ sym c.in-Some.ensures.value in
    first_is_least c.in-Some.t.now c.self.inside.waiting.items c.self.invariant e ∙ ap (λ (d : Driver). least (times d)) (c.self.view_is)
