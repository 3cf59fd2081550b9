use Rattle.std.proofs.Common.{◌≡◌, refl, ap, ◌++◌, ◌∷◌, [], option_map, ◌∙◌}
use Rattle.vd_regions.specs.Scopes.{Region}
use Rattle.vd_regions.proofs.RunLemmas.{runs_written}
use Rattle.vd_regions.proofs.SpaceLemmas.{written_at, rewritten_at, on_err}
use Rattle.vd_regions.proofs.regions.Regions.use_name.Goals as goal

pub returns-clause-used : goal.returns-clause-used
returns-clause-used c =
    let same : c.in_ok-name.name ≡ option_map (λ n. n.now) c.args.name = c.in_ok-name.ensures in
    let uses : c.push.new.self ≡ c.index_mut.result.now.uses ++ record { from = c.args.from; name = option_map (λ n. n.now) c.args.name } ∷ [] =
    c.in_ok-push.ensures.pushed
    ∙ ap (λ m. c.index_mut.result.now.uses ++ record { from = m; name = c.in_ok-name.name } ∷ []) c.number.ensures
    ∙ ap (λ m. c.index_mut.result.now.uses ++ record { from = c.args.from; name = m } ∷ []) same in
    written_at _ c.self.inside.spaces.items c.args.self.now c.args.region c.number-2.result c.index_mut.result.now _
    (λ r. record r { uses = r.uses ++ record { from = c.args.from; name = option_map (λ n. n.now) c.args.name } ∷ [] })
    c.self.view_is c.requires c.number-2.ensures c.index_mut.ensures.value
    (ap (λ us. let r : Region = record { outer = c.index_mut.result.now.outer; continues = c.index_mut.result.now.continues; closed = c.index_mut.result.now.closed; uses = us } in r) uses)

pub returns-in_err-push-clause-unchanged : goal.returns-in_err-push-clause-unchanged
returns-in_err-push-clause-unchanged c =
    let same = rewritten_at _ c.self.inside.spaces.items c.args.self.now c.args.region c.number-2.result c.index_mut.result.now _
    c.self.view_is c.requires c.number-2.ensures c.index_mut.ensures.value
    (ap (λ us. let r : Region = record { outer = c.index_mut.result.now.outer; continues = c.index_mut.result.now.continues; closed = c.index_mut.result.now.closed; uses = us } in r)
    c.in_err-push.ensures.unchanged) in
    on_err c.from_residual-in_err-push.result same

pub invariant_of-self-2 : goal.invariant_of-self-2
invariant_of-self-2 c =
    runs_written c.self.inside.spaces.items c.number-2.result c.index_mut.result.now _ c.index_mut.ensures.value refl refl refl c.self.invariant
