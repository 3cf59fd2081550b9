use Rattle.std.proofs.Common.{refl, ap, ◌∙◌}
use Rattle.vd_name_rows.specs.Refusals.{lesser, broken_if}
use Rattle.vd_name_ports.proofs.MapLemmas.{element_added}
use Rattle.vd_name_ports.proofs.elements.with_element.Goals as goal

pub returns-clause-is : goal.returns-clause-is
returns-clause-is c o is =
    let first = c.args.mapped.first in
    element_added c.args.out.now c.turn.new.self c.args.mapped _ c.args.port c.args.place o c.args.read is c.in_ok-trees.ensures.holds
    (c.lesser-2.ensures ∙ ap (lesser first) (c.lesser.ensures ∙ ap (λ r. lesser r c.args.read.first)
    (c.broken_if-again.ensures ∙ ap (λ b. broken_if b 310 c.args.place) c.has.ensures)))
    c.in_ok-given.ensures refl refl
