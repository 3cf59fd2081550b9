use Rattle.std.proofs.Common.{◌∙◌, arith}
use Rattle.vd_weighing.proofs.TableLemmas.{entries_put}
use Rattle.vd_weighing.proofs.table.Table.put_all.Goals as goal

pub loop-left-preserved : goal.loop-left-preserved
loop-left-preserved c = record {
  within = omega arith;
  so_far =
      entries_put c.loop-left.self c.put.new.self c.args.numbers.now c.loop-left.left c.index-numbers-left.result (omega arith)
      c.loop-left.invariant.within c.index-numbers-left.is c.in_ok-put.ensures
      ∙ c.loop-left.invariant.so_far;
}
