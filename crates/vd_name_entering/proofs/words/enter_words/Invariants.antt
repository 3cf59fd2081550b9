use Rattle.vd_forest.specs.Forest.{size}
use Rattle.vd_walks.specs.Least.{lesser}
use Rattle.std.proofs.Common.{◌≡◌}
use Rattle.vd_name_rows.specs.Entering.{words_of, entering_words}
use Rattle.vd_name_entering.proofs.words.enter_words.Given as goal

abbrev pub invariant-loop-node : goal.invariant-loop-node
invariant-loop-node l = record {
  design :
      (entering_words l.region l.class l.mark (words_of l.left) l.names).design
      ≡ (entering_words l.region l.class l.mark (words_of l.fn.list) l.fn.names).design;
  first :
      lesser l.first (entering_words l.region l.class l.mark (words_of l.left) l.names).first
      ≡ (entering_words l.region l.class l.mark (words_of l.fn.list) l.fn.names).first;
}

abbrev pub decreases-loop-node : goal.decreases-loop-node
decreases-loop-node l = size l.left
