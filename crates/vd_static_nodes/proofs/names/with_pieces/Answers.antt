use Rattle.std.proofs.Common.{◌+◌, arith, drop}
use Rattle.std.proofs.lemmas.List.{drop_all}
use Rattle.vd_meaning.specs.Meanings.{named_by}
use Rattle.vd_static_parts.proofs.KnownLemmas.{drop_here}
use Rattle.vd_static_nodes.proofs.NameLemmas.{comes_at_last, comes_further}
use Rattle.vd_static_nodes.proofs.names.with_pieces.Goals as goal

pub loop-node-preserved : goal.loop-node-preserved
loop-node-preserved c =
    let store = c.args.ground.now.subtypes.now in
    let xs = c.args.pieces.now in
    let i = c.loop-node.node-index in
    let node = c.node-item.result in
    record {
      within = c.in_ok-name.ensures.within;
      fields = c.apply.ensures.fields;
      named = λ e p ms ground is nodes.
          comes_further store e c.loop-node.name c.in_ok-name.name node (drop (i + 1) xs) (drop i xs) (named_by p ms) (drop_here xs i node c.loop-node-test.true c.node-item.is)
          (λ q f name piece. c.in_ok-name.ensures.named e q f ground name piece)
          (c.loop-node.invariant.named e p ms ground is nodes);
    }

pub returns-clause-named : goal.returns-clause-named
returns-clause-named c = λ e p ms ground is nodes.
    let store = c.args.ground.now.subtypes.now in
    let i = c.loop-node.node-index in
    comes_at_last store e c.loop-node.name (drop i c.args.pieces.now) (named_by p ms) (drop_all i c.args.pieces.now (omega arith))
    (c.loop-node.invariant.named e p ms ground is nodes)
