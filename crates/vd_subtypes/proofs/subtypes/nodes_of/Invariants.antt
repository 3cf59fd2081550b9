use Rattle.std.proofs.Common.{take}
use Rattle.vd_subtypes.specs.Nodes.{IsNodesOf}
use Rattle.vd_subtypes.proofs.subtypes.nodes_of.Given as goal

abbrev pub invariant-loop-field : goal.invariant-loop-field
invariant-loop-field l = IsNodesOf (take l.field-index l.fields) l.made.items
