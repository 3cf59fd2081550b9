use Rattle.std.proofs.Common.{subst, sym}
use Rattle.vd_meaning.specs.Facets.{nth}
use Rattle.vd_static_values.specs.Nodes.{IsNode}
use Rattle.vd_static_parts.proofs.PartLemmas.{nth_here, nth_missing}
use Rattle.vd_static_parts.proofs.copies.first_again.Goals as goal

pub returns-in-Some-clause-node : goal.returns-in-Some-clause-node
returns-in-Some-clause-node c = λ subtypes e ms are.
    c.node_again.ensures.node subtypes e (nth 0 ms) (nth_here subtypes e 0 c.args.parts.now ms c.in-Some.part.now are (sym c.in-Some.ensures.value))

pub returns-in-None-clause-node : goal.returns-in-None-clause-node
returns-in-None-clause-node c = λ subtypes e ms are.
    subst (IsNode subtypes e c.absent.result) (sym (nth_missing subtypes e 0 c.args.parts.now ms are (sym c.in-None.ensures.value))) (c.absent.ensures.node subtypes e)
