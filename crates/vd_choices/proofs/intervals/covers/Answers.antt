use Rattle.vd_choices.proofs.Sweeps.{IsCovered-either}
use Rattle.vd_choices.proofs.intervals.covers.Goals as goal

pub returns : goal.returns
returns c = IsCovered-either _ _ _ _ c.in_ok-sorted.ensures.moved c.deref.ensures.value c.covers_in_order.ensures
