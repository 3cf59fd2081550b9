use Rattle.std.proofs.Common.{◌≡◌, drop}
use Rattle.vd_name_rules.specs.Looking.{first_among}
use Rattle.vd_walks.specs.Least.{lesser}
use Rattle.vd_name_rules.proofs.looking.first_among.Given as goal

abbrev pub invariant-loop-tree : goal.invariant-loop-tree
invariant-loop-tree l = lesser l.found (first_among (drop l.tree-index l.trees)) ≡ first_among l.trees
