use Rattle.std.proofs.Common.{refl, true}
use Rattle.vd_regions.proofs.RunLemmas.{runs_written}
use Rattle.vd_regions.proofs.SpaceLemmas.{written_at}
use Rattle.vd_regions.proofs.regions.Regions.close.Goals as goal

pub returns : goal.returns
returns c =
    written_at _ c.self.inside.spaces.items c.args.self.now c.args.region c.number.result c.index_mut.result.now _ (λ r. record r { closed = true })
    c.self.view_is c.requires c.number.ensures c.index_mut.ensures.value refl

pub invariant_of-self : goal.invariant_of-self
invariant_of-self c =
    runs_written c.self.inside.spaces.items c.number.result c.index_mut.result.now _ c.index_mut.ensures.value refl refl refl c.self.invariant
