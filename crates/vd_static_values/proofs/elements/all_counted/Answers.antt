use Rattle.std.proofs.Common.{ap, drop_of_length-le, subst, sym, ◌++◌, ◌∙◌}
use Rattle.vd_composites.specs.Composites.{listed}
use Rattle.vd_static_values.proofs.ElementLemmas.{elements_end, elements_next, elements_push, sized_back, sized_push}
use Rattle.vd_static_values.specs.Levels.{AreSized, IsCounted, elements_of}
use Rattle.vd_static_values.proofs.elements.all_counted.Goals as goal

pub loop-array-preserved : goal.loop-array-preserved
loop-array-preserved c =
    let arrays = c.args.arrays.now in
    let i = c.loop-array.array-index in
    let array = c.array-item.result in
    let made = c.loop-array.made.items in
    let again = c.in_ok-again.again in
    let counted : IsCounted array again = c.in_ok-again.ensures in
    record {
      own = λ rest. c.loop-array.invariant.own (sized_back arrays i array c.loop-array-test.true c.array-item.is counted.own rest);
      sized = subst AreSized (sym c.in_ok-push.ensures.items) (sized_push made again c.loop-array.invariant.sized counted.sized);
      same =
          elements_next arrays i array (elements_of made) (elements_of c.push.new.self.items) (elements_of arrays) c.loop-array-test.true c.array-item.is
          (ap elements_of c.in_ok-push.ensures.items ∙ elements_push made again ∙ ap (λ vs. elements_of made ++ listed vs) counted.elements) c.loop-array.invariant.same;
    }

pub returns : goal.returns
returns c =
    let arrays = c.args.arrays.now in
    let i = c.loop-array.array-index in
    record {
      own = c.loop-array.invariant.own (subst AreSized (sym (drop_of_length-le arrays c.loop-array-test.false)) tt);
      same = record {
        sized = c.loop-array.invariant.sized;
        elements = elements_end arrays i (elements_of c.loop-array.made.items) (elements_of arrays) c.loop-array-test.false c.loop-array.invariant.same;
      };
    }
