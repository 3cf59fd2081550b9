use Rattle.std.proofs.Common.{ap, ◌∙◌}
use Rattle.vd_walks.specs.Walking.{walked}
use Rattle.vd_weighing.specs.Weighing.{weigher}
use Rattle.vd_weighing.proofs.WeighingLemmas.{weight_is}
use Rattle.vd_weighing.proofs.weigher.weight.Goals as goal

pub returns : goal.returns
returns c =
    let ds = c.args.declarations.now in
    let units = c.args.units.now in
    let is = c.in_ok-outcome.ensures.is.is in
    weight_is ds units c.in_ok-outcome.outcome.at c.weight_of_instances.result c.plus.result c.walk.new.design
    (ap (λ o. o.at) is ∙ ap (λ k. (walked (weigher ds) units 0 k).at) c.new-known.ensures)
    (ap (λ o. o.design) is ∙ ap (λ k. (walked (weigher ds) units 0 k).design) c.new-known.ensures)
    c.weight_of_instances.ensures c.plus.ensures
