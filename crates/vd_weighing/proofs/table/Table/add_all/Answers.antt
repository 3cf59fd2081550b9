use Rattle.std.proofs.Common.{◌∙◌, arith}
use Rattle.vd_weighing.proofs.TableLemmas.{sums_put}
use Rattle.vd_weighing.proofs.table.Table.add_all.Goals as goal

pub loop-left-preserved : goal.loop-left-preserved
loop-left-preserved c = record {
  within = omega arith;
  so_far =
      sums_put c.loop-left.self c.add.new.self c.args.numbers.now c.loop-left.left c.index-numbers-left.result (omega arith)
      c.loop-left.invariant.within c.index-numbers-left.is c.in_ok-add.ensures
      ∙ c.loop-left.invariant.so_far;
}
