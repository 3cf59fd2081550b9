use Rattle.std.proofs.Common.{◌≡◌, ◌≤◌, length, map, drop}
use Rattle.vd_forest.specs.Forest.{turned}
use Rattle.vd_forest.specs.Store.{at, Extends}
use Rattle.vd_walks.specs.Least.{lesser}
use Rattle.vd_naming.specs.Generics.{elements_outcome}
use Rattle.vd_name_actuals.specs.Seen.{seen_known}
use Rattle.vd_name_maps.specs.Seen.{seen_element}
use Rattle.vd_name_maps.proofs.inside.elements_outcome.Given as goal

abbrev pub invariant-loop-element : goal.invariant-loop-element
invariant-loop-element l =
    let left = elements_outcome l.at l.known.names.now (seen_known l.known) (map seen_element (drop l.element-index l.elements)) l.left in
    let all = elements_outcome l.at l.known.names.now (seen_known l.known) (map seen_element l.elements) l.fn.parts in
    record {
      trees_in : l.trees ≤ length l.out;
      tree : turned (at l.out l.trees) left.tree ≡ all.tree;
      first : lesser l.first left.first ≡ all.first;
      extends : Extends l.fn.out l.out;
    }
