use Rattle.vd_rewriting.proofs.RewritingLaws.{keeps_meanings}
use Rattle.vd_meaning.specs.Meanings.{node_meaning}
use Rattle.vd_meaning_laws.proofs.laws.kept_nodes_keep_trees.Goals as goal

pub returns : goal.returns
returns c = λ t t' pass keeps f. keeps_meanings (node_meaning t) (node_meaning t') pass keeps f
