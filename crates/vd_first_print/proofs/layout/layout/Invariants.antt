use Rattle.std.proofs.Common.{length}
use Rattle.vd_first_print.specs.Layout.{layout_of}
use Rattle.vd_first_print.proofs.LayoutLemmas.{IsLaid}
use Rattle.vd_first_print.proofs.layout.layout.Given as goal

abbrev pub invariant-loop-token : goal.invariant-loop-token
invariant-loop-token l = IsLaid l.out.items (layout_of l.tokens) l.counts l.last l.rest

abbrev pub decreases-loop-token : goal.decreases-loop-token
decreases-loop-token l = length l.rest
