use Rattle.vd_static_values.proofs.ElementLemmas.{elements_end, elements_next, sized_rest}
use Rattle.vd_static_values.specs.Levels.{AddsElements, elements_of}
use Rattle.vd_static_values.proofs.elements.halved.Goals as goal

pub loop-array-preserved : goal.loop-array-preserved
loop-array-preserved c =
    let arrays = c.args.arrays.now in
    let i = c.loop-array.array-index in
    let array = c.array-item.result in
    let made = c.loop-array.made.items in
    let new = c.add_halves.new.made.items in
    let added : AddsElements made new array = c.in_ok-add_halves.ensures in
    record {
      left = sized_rest arrays i array c.loop-array-test.true c.array-item.is c.loop-array.invariant.left;
      sized = added.sized c.loop-array.invariant.sized;
      same =
          elements_next arrays i array (elements_of made) (elements_of new) (elements_of arrays) c.loop-array-test.true c.array-item.is added.elements c.loop-array.invariant.same;
    }

pub returns : goal.returns
returns c =
    let arrays = c.args.arrays.now in
    record {
      sized = c.loop-array.invariant.sized;
      elements =
          elements_end arrays c.loop-array.array-index (elements_of c.loop-array.made.items) (elements_of arrays) c.loop-array-test.false c.loop-array.invariant.same;
    }
