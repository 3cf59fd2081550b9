use Rattle.std.proofs.Common.{Ok, [], ◌++◌, ◌∷◌}
use Rattle.vd_composites.specs.Composites.{One}
use Rattle.vd_meaning.specs.Facets.{expression}
use Rattle.vd_meaning.specs.Names.{literal_known}
use Rattle.vd_static_nodes.proofs.LeafLemmas.{with_texts}
use Rattle.vd_values.specs.declared.scalar.Scalar.TheVariants.{Literal}
use Rattle.vd_static_nodes.proofs.literals.character_literal.Goals as goal

pub returns-clause-node : goal.returns-clause-node
returns-clause-node c = λ parts e ms ground are.
    let store = c.args.ground.now.subtypes.now in
    let node = c.args.node in
    let text = c.args.text.now in
    let name = c.in_ok-name.ensures.named e ground in
    with_texts store e c.expression.result (expression node text ms (λ _ _. Ok (One (Literal node.position))) (literal_known node.mark)) ((39 ∷ (text ++ 39 ∷ [])) ∷ []) []
    (c.expression.ensures.node store e ms (λ _ _. Ok (One (Literal node.position))) (literal_known node.mark) name.known (λ local given. name.value local))
