use Rattle.std.proofs.Common.{get_or, sym, subst}
use Rattle.std.specs.List.{Contains}
use Rattle.vd_region_tables.specs.Tables.{homes_of}
use Rattle.vd_regions.specs.Scopes.{nothing_entered}
use Rattle.vd_regions.specs.Indexes.{AreHomes}
use Rattle.vd_regions.proofs.catalog.Catalog.homes.Goals as goal

pub returns : goal.returns
returns c = λ k within named.
    subst (λ xs. Contains xs (get_or c.args.self.now k nothing_entered).region) (sym c.of.ensures)
    (subst (AreHomes (homes_of c.self.inside.homes)) c.self.view_is c.self.invariant.housed c.args.name.now k within named)
