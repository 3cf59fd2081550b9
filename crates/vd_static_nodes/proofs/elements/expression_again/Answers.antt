use Rattle.std.proofs.Common.{length, refl}
use Rattle.std.proofs.lemmas.Option.{slice_get_past, slice_get_read}
use Rattle.std.proofs.lemmas.Result.{IfOk-weaker}
use Rattle.vd_meaning.specs.Facets.{nth}
use Rattle.vd_static_values.specs.Nodes.{IsNode}
use Rattle.vd_static_nodes.proofs.ElementLemmas.{expression_there}
use Rattle.vd_static_nodes.specs.Elements.{IsExpression}
use Rattle.vd_static_parts.proofs.PartLemmas.{nth_here, nth_missing}
use Rattle.vd_static_nodes.proofs.elements.expression_again.Goals as goal

pub returns-in-Some-clause-expression : goal.returns-in-Some-clause-expression
returns-in-Some-clause-expression c = λ subtypes e ms are.
    let parts = c.args.parts.now in
    let x = c.in-Some.part.now in
    let there = slice_get_read parts (length parts) 1 x refl c.in-Some.ensures.lookup.3.0 c.in-Some.ensures.lookup.1 in
    IfOk-weaker c.node_again.result (λ y. IsNode subtypes e y (nth 1 ms)) (IsExpression subtypes e ms) (λ y is. expression_there subtypes e parts ms x y are there is)
    (c.node_again.ensures.node subtypes e (nth 1 ms) (nth_here subtypes e 1 parts ms x are there))

pub returns-in-None-clause-expression : goal.returns-in-None-clause-expression
returns-in-None-clause-expression c = λ subtypes e ms are.
    let parts = c.args.parts.now in
    c.no_expression.ensures.expression subtypes e ms (nth_missing subtypes e 1 parts ms are (slice_get_past parts 1 c.in-None.ensures.lookup.3))
