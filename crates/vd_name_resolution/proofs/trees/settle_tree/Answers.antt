use Rattle.vd_name_resolution.proofs.PassLemmas.{holds_settled}
use Rattle.vd_name_resolution.proofs.trees.settle_tree.Goals as goal

pub returns-clause-holds : goal.returns-clause-holds
returns-clause-holds c = holds_settled c.args.settling.now c.rewrite_under.new.out c.in_ok-made.made tt c.args.tree.now c.in_ok-made.ensures.holds
