-- What the trees of a forest declare, one after the other, by what each node does.
use Rattle.vd_forest.specs.Forest.{Forest, more, nothing}
use Rattle.vd_resolved.specs.declared.node.Resolved.{Resolved}
use Rattle.vd_value_rules.specs.Designs.{Design}
use Rattle.vd_value_rules.specs.Knowledge.{Known}

-- what a node with these parts declares, where its parts declare the first and the second was known in front of it
abbrev pub ByNode : Type 0
ByNode = Design → Resolved → Forest Resolved → (inner k : Known) → Known

abbrev pub all_declared : ByNode → Design → Forest Resolved → Known → Known
all_declared by d nothing k = k
all_declared by d (more n text place parts next) k = all_declared by d next (by d n parts (all_declared by d parts k) k)
