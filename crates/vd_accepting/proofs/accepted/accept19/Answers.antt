use Rattle.std.proofs.Common.{Ok, subst}
use Rattle.vd_accepting.specs.Accepting.{IsAnswer}
use Rattle.vd_trees.specs.declared.revision.Revision.TheVariants.{V2019}
use Rattle.vd_accepting.proofs.accepted.accept19.Goals as goal

pub returns-in-Ok : goal.returns-in-Ok
returns-in-Ok c =
    subst (λ u. IsAnswer V2019 u (Ok c.in-Ok.tree)) c.units.ensures.units (subst (λ r. IsAnswer V2019 c.units.result r) c.in-Ok.is c.accept.ensures)
