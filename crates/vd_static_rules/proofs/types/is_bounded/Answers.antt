use Rattle.std.proofs.Common.{◌≤◌, length, subst, sym}
use Rattle.vd_static_rules.proofs.types.is_bounded.Goals as goal

pub cursor-requires : goal.cursor-requires
cursor-requires c =
    let r = c.requires.ready in
    subst (λ fs. c.own-own.result ≤ length fs) (sym c.store.ensures) (c.own-own.ensures r.design.table r.now r.round r.knows.known).within
