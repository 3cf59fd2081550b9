use Rattle.std.proofs.Common.{length, subst, sym, ◌≤◌}
use Rattle.vd_bound_rules.proofs.indications.has_no_bounds.Goals as goal

pub cursor-requires : goal.cursor-requires
cursor-requires c =
    let r = c.requires.ready in
    subst (λ s. c.in_ok-indicated.indicated.own ≤ length s) (sym c.store.ensures) (c.in_ok-indicated.ensures.indicated r.design r.now r.round r.knows).own.within
