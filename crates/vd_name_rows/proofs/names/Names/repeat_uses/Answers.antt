use Rattle.std.proofs.Common.{subst, sym}
use Rattle.vd_regions.specs.Scopes.{region_at}
use Rattle.vd_name_rows.specs.Counts.{AreCounted}
use Rattle.vd_name_rows.proofs.GrowthLemmas.{clauses_counted}
use Rattle.vd_name_rows.proofs.names.Names.repeat_uses.Goals as goal

pub invariant_of-self-2 : goal.invariant_of-self-2
invariant_of-self-2 c = λ whole.
    subst (λ s. AreCounted s c.self.inside.counts) (sym c.in_ok-repeat_uses.ensures)
    (clauses_counted c.self.inside.regions c.self.inside.counts c.args.region (region_at c.self.inside.regions c.args.from).uses
    (c.self.invariant c.if-not-self.false))
