use Rattle.std.proofs.Common.{◌++◌, ◌∷◌, [], ap, refl}
use Rattle.vd_regions.specs.Scopes.{Region}
use Rattle.vd_regions.specs.Clauses.{clause_of}
use Rattle.vd_regions.proofs.RunLemmas.{runs_written}
use Rattle.vd_regions.proofs.SpaceLemmas.{written_at}
use Rattle.vd_regions.proofs.regions.Regions.push_use.Goals as goal

pub returns : goal.returns
returns c =
    written_at _ c.self.inside.spaces.items c.args.self.now c.args.region c.args.region c.index_mut.result.now _
    (λ r. record r { uses = r.uses ++ clause_of c.args.clause ∷ [] })
    c.self.view_is c.requires refl c.index_mut.ensures.value
    (ap (λ us. let r : Region = record { outer = c.index_mut.result.now.outer; continues = c.index_mut.result.now.continues; closed = c.index_mut.result.now.closed; uses = us } in r)
    c.in_ok-push.ensures.pushed)

pub invariant_of-self-2 : goal.invariant_of-self-2
invariant_of-self-2 c =
    runs_written c.self.inside.spaces.items c.args.region c.index_mut.result.now _ c.index_mut.ensures.value refl refl refl c.self.invariant
