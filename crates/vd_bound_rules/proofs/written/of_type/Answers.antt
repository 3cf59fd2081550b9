use Rattle.std.proofs.Common.{Some, subst, sym, ◌≡◌}
use Rattle.vd_value_rules.specs.Made.{Indicates}
use Rattle.vd_value_rules.specs.Knowledge.{at_mark}
use Rattle.vd_bound_rules.proofs.written.of_type.Goals as goal

pub returns-in-Some : goal.returns-in-Some
returns-in-Some c = λ d k ks knows.
    let named : c.args.mark ≡ Some c.number.result = cc in
    subst (λ m. Indicates c.args.design.now.table.subtypes c.own.result (at_mark m k.env)) (sym named) (c.own.ensures d.table k ks knows.known)
