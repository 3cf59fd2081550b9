use Rattle.std.proofs.Common.{sym, ◌∙◌}
use Rattle.vd_meaning.specs.Facets.{known_of, nth, reads_of}
use Rattle.vd_static_nodes.proofs.ElementLemmas.{first_named, with_choices}
use Rattle.vd_static_nodes.proofs.elements.association.Goals as goal

pub returns-clause-node : goal.returns-clause-node
returns-clause-node c = λ g node text e ms seen are.
    let store = g.subtypes.now in
    let parts = c.args.parts.now in
    let expression = c.in_ok-sense.ensures.expression store e ms are in
    record {
      sense =
          with_choices store e c.in_ok-sense.field-0.sense (nth 1 ms) expression.node.sense c.known_of.result (known_of ms) c.in_ok-choices.choices (nth 0 ms).choices
          (reads_of ms) (c.known_of.ensures store e ms are) expression.value expression.range
          (first_named store e parts ms are ∙ sym c.in_ok-choices.ensures);
      piece = expression.node.piece;
    }
