use Rattle.vd_static_values.proofs.ElementLemmas.{elements_end, elements_next, sized_rest}
use Rattle.vd_static_values.specs.Levels.{elements_of}
use Rattle.vd_static_values.proofs.elements.singles.Goals as goal

pub loop-array-preserved : goal.loop-array-preserved
loop-array-preserved c =
    let arrays = c.args.arrays.now in
    let i = c.loop-array.array-index in
    let array = c.array-item.result in
    record {
      left = sized_rest arrays i array c.loop-array-test.true c.array-item.is c.loop-array.invariant.left;
      same =
          elements_next arrays i array c.loop-array.made.items c.add_single.new.made.items (elements_of arrays) c.loop-array-test.true c.array-item.is
          c.in_ok-add_single.ensures c.loop-array.invariant.same;
    }

pub returns : goal.returns
returns c =
    let arrays = c.args.arrays.now in
    elements_end arrays c.loop-array.array-index c.loop-array.made.items (elements_of arrays) c.loop-array-test.false c.loop-array.invariant.same
