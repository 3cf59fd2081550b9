use Rattle.vd_choices.proofs.Sweeps.{IsRepeated-either}
use Rattle.vd_choices.proofs.intervals.is_repeated.Goals as goal

pub returns : goal.returns
returns c = IsRepeated-either _ _ _ c.in_ok-sorted.ensures.moved c.deref.ensures.value c.is_repeated_in_order.ensures
