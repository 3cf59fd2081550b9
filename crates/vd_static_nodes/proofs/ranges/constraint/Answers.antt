use Rattle.std.proofs.Common.{refl}
use Rattle.vd_environments.specs.Got.{senseless}
use Rattle.vd_meaning.specs.Facets.{nth}
use Rattle.vd_static_nodes.proofs.RangeLemmas.{with_range}
use Rattle.vd_static_nodes.proofs.ranges.constraint.Goals as goal

pub returns-clause-node : goal.returns-clause-node
returns-clause-node c = λ g e ms seen are.
    let store = g.subtypes.now in
    let node = c.expression-sense.ensures.node store e ms (λ _ _. senseless) (nth 0 ms).known (c.first_known.ensures store e ms are) (λ local given. refl) in
    record {
      sense =
          with_range store e c.expression-sense.result.sense c.args.node c.args.text.now ms c.first_range.result (nth 0 ms).range (nth 0 ms).known node.sense
          (c.first_range.ensures store e ms are);
      piece = node.piece;
    }
