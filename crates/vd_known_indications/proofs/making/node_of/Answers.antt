use Rattle.vd_meaning.specs.Kinds.{kind}
use Rattle.vd_known_indications.proofs.KindLemmas.{each_made}
use Rattle.vd_known_indications.proofs.making.node_of.Goals as goal

pub returns-clause-made : goal.returns-clause-made
returns-clause-made c =
    each_made (kind c.args.node.form) c.kind_of.result c.args.ground.now c.args.node c.args.text.now c.args.parts.now c.node_as.result c.kind_of.ensures c.node_as.ensures.made
