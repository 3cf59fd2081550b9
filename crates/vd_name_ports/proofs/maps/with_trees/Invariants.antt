use Rattle.std.proofs.Common.{◌≡◌, ◌≤◌, length}
use Rattle.vd_forest.specs.Forest.{size}
use Rattle.vd_forest.specs.Store.{Extends}
use Rattle.vd_naming.specs.Ports.{no_map, with_trees}
use Rattle.vd_name_ports.specs.Maps.{seen_map}
use Rattle.vd_name_ports.proofs.maps.with_trees.Given as goal

abbrev pub invariant-loop-node : goal.invariant-loop-node
invariant-loop-node l = record {
  trees_in : l.mapped.trees ≤ length l.out;
  so_far : with_trees l.instance.entity l.instance.at.now l.instance.names.now l.number l.left (seen_map l.out l.mapped)
      ≡ with_trees l.instance.entity l.instance.at.now l.instance.names.now 0 l.fn.parts no_map;
  extends : Extends l.fn.out l.out;
}

abbrev pub decreases-loop-node : goal.decreases-loop-node
decreases-loop-node l = size l.left
