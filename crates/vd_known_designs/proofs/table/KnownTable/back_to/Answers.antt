use Rattle.std.proofs.Common.{arith}
use Rattle.vd_known_designs.proofs.LogLemmas.{goes_back_more}
use Rattle.vd_known_designs.proofs.table.KnownTable.back_to.Goals as goal

pub loop-self-preserved-in-Some : goal.loop-self-preserved-in-Some
loop-self-preserved-in-Some c =
    let x = c.args.self.now in
    let here = c.loop-self.self in
    record {
      within = λ inside. omega (arith, c.loop-self.invariant.within inside, c.in-Some.ensures.len, c.pop.new.self.ok.0, here.log.ok.0);
      back = λ can.
          goes_back_more x.contents here.contents c.undo.new.self x.log.items here.log.items c.pop.new.self.items c.in-Some.replaced c.in-Some.ensures.items
          c.undo.ensures.content c.undo.ensures.lengths (c.loop-self.invariant.back can);
      marks = c.loop-self.invariant.marks;
      same = c.loop-self.invariant.same;
    }
