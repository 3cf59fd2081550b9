use Rattle.std.proofs.Common.{◌≤◌, length, subst, sym}
use Rattle.vd_contexts.proofs.standings.is_bounded_indication.Goals as goal

pub cursor-requires : goal.cursor-requires
cursor-requires c =
    let r = c.requires.ready in
    subst (λ z. c.in_ok-of.of.own ≤ length z) (sym c.store.ensures) (c.in_ok-of.ensures.indicated r.design r.now r.round r.knows).own.within
