use Rattle.std.proofs.Common.{◌+◌, ap, ◌∙◌}
use Rattle.vd_weighing.specs.Weights.{nodes_of_first, part, declared_at, port_map}
use Rattle.vd_weighing.specs.Limits.{at_most}
use Rattle.vd_weighing.proofs.LimitLemmas.{sum_of_five}
use Rattle.vd_weighing.proofs.ports.entity_instance.Goals as goal

pub returns : goal.returns
returns c =
    let ds = c.args.declarations.now in
    let k = c.args.known.now in
    let parts = c.args.parts.now in
    sum_of_five 1 (nodes_of_first parts) (nodes_of_first (part 1 parts)) (nodes_of_first (part 2 parts)) (port_map ds (declared_at parts) k (part 3 parts))
    c.in_ok-entity.entity c.in_ok-architecture.architecture c.in_ok-generics.generics c.in_ok-ports.ports c.plus-3.result
    c.in_ok-entity.ensures
    (c.in_ok-architecture.ensures ∙ ap (λ f. at_most (nodes_of_first f)) c.skip.ensures)
    (c.in_ok-generics.ensures ∙ ap (λ f. at_most (nodes_of_first f)) c.skip-2.ensures)
    (c.in_ok-ports.ensures ∙ ap (λ e. at_most (port_map ds e k c.skip-3.result)) c.declared_at.ensures
    ∙ ap (λ f. at_most (port_map ds (declared_at parts) k f)) c.skip-3.ensures)
    (c.plus-3.ensures ∙ ap (λ n. at_most (n + c.in_ok-ports.ports))
    (c.plus-2.ensures ∙ ap (λ n. at_most (n + c.in_ok-generics.generics))
    (c.plus-named.ensures ∙ ap (λ n. at_most (n + c.in_ok-architecture.architecture))
    (c.plus.ensures ∙ ap (λ n. at_most (n + c.in_ok-entity.entity)) c.own_weight.ensures))))
