use Rattle.std.proofs.Common.{subst, sym}
use Rattle.vd_name_rows.specs.Counts.{AreCounted}
use Rattle.vd_name_rows.proofs.GrowthLemmas.{entry_counted}
use Rattle.vd_name_rows.proofs.names.Names.add.Goals as goal

pub go_on-requires : goal.go_on-requires
go_on-requires c =
    subst (λ s. AreCounted s c.self.inside.counts) (sym c.in_ok-id.ensures.added.1)
    (entry_counted c.self.inside.regions c.self.inside.counts c.args.region c.args.declared
    (c.self.invariant c.if-not-self.false))
