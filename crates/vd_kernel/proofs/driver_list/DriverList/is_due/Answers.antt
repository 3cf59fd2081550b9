use Rattle.std.proofs.Common.{◌≡◌, ◌∙◌, nat_le, sym, ap, Some}
use Rattle.std.specs.List.{slice_get, list_any}
use Rattle.vd_kernel.proofs.FirstTransactions.{first_due}
use Rattle.vd_kernel.specs.Drivers.{Driver}
use Rattle.vd_kernel.proofs.driver_list.DriverList.is_due.Goals as goal

pub returns-in-Some : goal.returns-in-Some
returns-in-Some c =
    let e : slice_get c.self.inside.waiting.items 0 ≡ Some c.in-Some.t.now = ap (λ ts. slice_get ts 0) (sym c.deref.ensures.value) ∙ sym c.in-Some.ensures.value in
    first_due c.args.time c.in-Some.t.now c.self.inside.waiting.items c.self.invariant e
    ∙ ap (λ (d : Driver). list_any (λ t. nat_le t.time c.args.time) d.waiting) (c.self.view_is)
