use Rattle.std.proofs.Common.{subst, sym}
use Rattle.vd_name_rows.specs.Counts.{AreCounted}
use Rattle.vd_name_rows.proofs.GrowthLemmas.{operators_counted}
use Rattle.vd_name_rows.proofs.names.Names.bring_operators.Goals as goal

pub go_on-requires : goal.go_on-requires
go_on-requires c =
    subst (λ s. AreCounted s c.self.inside.counts) (sym c.in_ok-bring_operators.ensures)
    (operators_counted c.self.inside.regions c.self.inside.counts c.args.region c.args.own c.args.class
    (c.self.invariant c.if-not-self.false))
