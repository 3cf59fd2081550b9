use Rattle.std.proofs.Common.{◌≤◌, length, subst, sym}
use Rattle.vd_contexts.proofs.elements.is_bounded.Goals as goal

pub cursor-requires : goal.cursor-requires
cursor-requires c =
    let r = c.requires.ready in
    subst (λ z. c.own-own.result ≤ length z) (sym c.store.ensures) (c.own-own.ensures r.design.table r.now r.round r.knows.known).within
