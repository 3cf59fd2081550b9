use Rattle.std.proofs.Common.{sym, subst, ap, ◌∙◌}
use Rattle.vd_kernel.specs.Drivers.{assigned}
use Rattle.vd_kernel.specs.DriverLists.{IsAscending}
use Rattle.vd_kernel.proofs.AssignedLists.{assigned_ascending}
use Rattle.vd_kernel.proofs.driver_list.DriverList.assign.Goals as goal

pub invariant_of-self : goal.invariant_of-self
invariant_of-self c =
    let old = c.self.inside.waiting.items in
    let e = c.in_ok-self-inside.ensures ∙ ap (assigned c.args.delay c.args.new) c.deref.ensures.value in
    subst IsAscending (sym e) (assigned_ascending c.args.delay c.args.new old c.self.invariant)
