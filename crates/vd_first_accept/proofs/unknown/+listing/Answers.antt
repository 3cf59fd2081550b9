use Rattle.std.proofs.Common.{arith, ap}
use Rattle.vd_forest.specs.Forest.{size}
use Rattle.vd_first_accept.specs.Unknown.{listed_names, tree_listed}
use Rattle.vd_first_accept.proofs.UnknownLemmas.{listed_more}
use Rattle.vd_first_accept.proofs.unknown.+listing.Goals as goal

pub add_listed-loop-first-preserved : goal.add_listed-loop-first-preserved
add_listed-loop-first-preserved t c =
    let first = c.in-Some.first in
    record {
      smaller = omega (arith, ap size c.in-Some.ensures, c.loop-first.invariant.smaller);
      same = listed_more c.loop-first.ports c.add_tree.new.ports _ (listed_names c.loop-first.left) (tree_listed first.form first.parts) (listed_names first.next) (ap listed_names c.in-Some.ensures) c.in_ok-add_tree.ensures c.loop-first.invariant.same;
    }
