use Rattle.std.proofs.Common.{◌+◌, ap, sym, ◌∙◌, arith}
use Rattle.vd_weighing.specs.Weights.{own_weight, elements, declared_by, port_map}
use Rattle.vd_weighing.specs.Limits.{at_most}
use Rattle.vd_weighing.proofs.LimitLemmas.{at_most_small, at_most_plus_right}
use Rattle.vd_weighing.proofs.ports.port_map.Goals as goal

pub returns-in-None : goal.returns-in-None
returns-in-None c =
    sym (at_most_small 0 (omega arith))
    ∙ ap (λ f. at_most (port_map c.args.declarations.now c.args.entity.now c.args.known.now f)) (sym c.in-None.ensures)

pub returns-in_ok-inner-in-Some : goal.returns-in_ok-inner-in-Some
returns-in_ok-inner-in-Some c =
    let ds = c.args.declarations.now in
    let entity = c.args.entity.now in
    let k = c.args.known.now in
    let first = c.in-Some.first in
    let own = own_weight first.form.form in
    c.plus.ensures ∙ ap (λ n. at_most (n + c.in_ok-inner-in-Some.inner)) c.own_weight.ensures
    ∙ ap (λ n. at_most (own + n)) (c.in_ok-inner-in-Some.ensures ds ∙ ap (λ ps. at_most (elements ds ps k first.parts)) c.members.ensures)
    ∙ at_most_plus_right own (elements ds (declared_by ds entity) k first.parts)
    ∙ ap (λ f. at_most (port_map ds entity k f)) (sym c.in-Some.ensures)
