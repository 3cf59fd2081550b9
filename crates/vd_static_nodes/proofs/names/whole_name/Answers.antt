use Rattle.std.proofs.Common.{List, subst, sym}
use Rattle.vd_meaning.specs.Facets.{from, nth}
use Rattle.vd_meaning.specs.Kinds
use Rattle.vd_meaning.specs.Meanings.{named_by}
use Rattle.vd_static_values.specs.Nodes.{AreNodes}
use Rattle.vd_static_values.specs.declared.nodes.Node.{Node}
use Rattle.vd_static_parts.proofs.MadeLemmas.{made_by}
use Rattle.vd_static_nodes.proofs.NameLemmas.{nodes_behind}
use Rattle.vd_static_nodes.proofs.names.whole_name.Goals as goal

pub returns-clause-node : goal.returns-clause-node
returns-clause-node c =
    let g = c.args.ground.now in
    let store = g.subtypes.now in
    let parts = c.args.parts.now in
    made_by c.named.result Kinds.WholeName g c.args.node c.args.text.now parts
    (λ e ms ground nodes.
    let behind = subst (λ (xs : List Node). AreNodes store e xs (from 1 ms)) (sym c.behind_first.ensures) (nodes_behind store e parts ms nodes) in
    c.named.ensures.node store e (named_by (nth 0 ms).name (from 1 ms))
    (c.in_ok-name.ensures.named e (nth 0 ms).name (from 1 ms) ground (c.in_ok-first.ensures.named store e ms nodes) behind))
