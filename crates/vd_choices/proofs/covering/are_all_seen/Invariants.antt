use Rattle.std.proofs.Common.{length}
use Rattle.vd_choices.specs.TextOrder.{has_text, texts_left}
use Rattle.vd_choices.proofs.CoverLemmas.{IsTried}
use Rattle.vd_choices.proofs.covering.are_all_seen.Given as goal

abbrev pub invariant-loop-within : goal.invariant-loop-within
invariant-loop-within l = IsTried l.within (has_text l.seen.keys) (length l.initial.text) l.text

abbrev pub decreases-loop-within : goal.decreases-loop-within
decreases-loop-within l = texts_left l.within l.text
