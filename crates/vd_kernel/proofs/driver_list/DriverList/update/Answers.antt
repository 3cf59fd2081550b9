use Rattle.std.proofs.Common.{List, ◌∙◌, sym, ap, subst, nat_lt, nat_le, ◌<◌, rules}
use Rattle.std.specs.List.{filter}
use Rattle.vd_values.specs.declared.scalar.Scalar.{Scalar}
use Rattle.vd_kernel.specs.declared.assignments.Transaction.{Transaction}
use Rattle.std.proofs.lemmas.Fn.{filter_same}
use Rattle.std.proofs.lemmas.List.Kept.{AllPairs-filter}
use Rattle.vd_kernel.specs.Drivers.{Driver, last_value, advanced}
use Rattle.vd_kernel.proofs.FirstTransactions.{nothing_due}
use Rattle.vd_kernel.specs.DriverLists.{IsAscending}
use Rattle.vd_kernel.proofs.driver_list.DriverList.update.Goals as goal

abbrev driver : Scalar → List Transaction → Driver
driver v ts = record { current = v; waiting = ts }

pub invariant_of-self : goal.invariant_of-self
invariant_of-self c =
    let old = c.self.inside.waiting.items in
    let e = filter_same _ (λ t. nat_lt c.args.now t.time) _ (λ x b f' h. search rules) old c.retain.new.self.items c.retain.ensures.filtered in
    subst IsAscending (sym e) (AllPairs-filter (λ t u. t.time < u.time) (λ t. nat_lt c.args.now t.time) old c.self.invariant)

pub returns : goal.returns
returns c =
    let old = c.self.inside.waiting.items in
    let e = filter_same _ (λ t. nat_lt c.args.now t.time) _ (λ x b f' h. search rules) old c.retain.new.self.items c.retain.ensures.filtered in
    let g = c.due_value-self-inside.ensures ∙ ap (λ ts. last_value c.self.inside.current (filter (λ t. nat_le t.time c.args.now) ts)) c.deref.ensures.value in
    ap (λ v. driver v c.retain.new.self.items) g
    ∙ ap (driver (last_value c.self.inside.current (filter (λ t. nat_le t.time c.args.now) old))) e
    ∙ ap (advanced c.args.now) (c.self.view_is)

pub returns-then-not-is_due : goal.returns-then-not-is_due
returns-then-not-is_due c =
    let d = c.args.self.now in
    sym (nothing_due c.args.now d.current d.waiting (sym c.is_due.ensures ∙ c.if-not-is_due.true))
