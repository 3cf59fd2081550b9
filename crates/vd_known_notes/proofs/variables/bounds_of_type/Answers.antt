use Rattle.std.proofs.Common.{◌≤◌, length, subst, sym}
use Rattle.vd_known_notes.proofs.variables.bounds_of_type.Goals as goal

pub bounds_in-requires : goal.bounds_in-requires
bounds_in-requires c =
    let r = c.requires.ready in
    subst (λ store. c.marked-subtypes.result.own ≤ length store) (sym c.store.ensures) (c.marked-subtypes.ensures r.design r.now r.round r.knows).own.within
