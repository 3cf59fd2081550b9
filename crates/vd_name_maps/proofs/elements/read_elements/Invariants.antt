use Rattle.std.proofs.Common.{◌≡◌, ◌++◌, ◌≤◌, [], map, drop, length}
use Rattle.vd_forest.specs.Forest.{size}
use Rattle.vd_naming.specs.Associations.{elements}
use Rattle.vd_name_maps.specs.Seen.{seen_element}
use Rattle.vd_name_maps.proofs.elements.read_elements.Given as goal

abbrev pub invariant-loop-node : goal.invariant-loop-node
invariant-loop-node l = record {
  within : l.next ≤ length l.generics;
  so_far : map seen_element l.made.items ++ elements l.names l.owner (drop l.next l.generics) l.given l.left
      ≡ elements l.names l.owner l.generics [] l.fn.parts;
}

abbrev pub decreases-loop-node : goal.decreases-loop-node
decreases-loop-node l = size l.left
