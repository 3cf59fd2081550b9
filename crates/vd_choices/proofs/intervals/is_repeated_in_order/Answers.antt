use Rattle.std.proofs.Common.{true≢false, sym, subst}
use Rattle.std.proofs.lemmas.Bool.{iff_false}
use Rattle.vd_choices.specs.Intervals.{Share}
use Rattle.vd_choices.proofs.Sweeps.{IsApart, here, here-is, apart_more, apart_same, apart_end}
use Rattle.vd_choices.proofs.intervals.is_repeated_in_order.Goals as goal
use Rattle.vd_choices.proofs.intervals.is_repeated_in_order.Goals.{then-choice, else-choice}

pub loop-choice-preserved : goal.loop-choice-preserved
loop-choice-preserved c =
    let none : ¬ Share c.loop-choice.last (here c.args.sorted.now c.loop-choice.choice-index) = iff_false c.share.ensures c.if-share.false in
    elim c.if-choice.branch [
      | then-choice w ↦ subst (IsApart _ _) (sym w.last-is) (apart_more _ _ _ c.loop-choice.invariant (here c.args.sorted.now c.loop-choice.choice-index) c.loop-choice-test.true (here-is _ _ c.loop-choice-test.true) c.requires none w.if-choice.true)
      | else-choice w ↦ subst (IsApart _ _) (sym w.last-is) (apart_same _ _ _ c.loop-choice.invariant (here c.args.sorted.now c.loop-choice.choice-index) c.loop-choice-test.true (here-is _ _ c.loop-choice-test.true) c.requires none w.if-choice.false)
    ]

pub returns : goal.returns
returns c = ((λ h. absurd (true≢false (sym h))), λ r. absurd (apart_end _ _ _ c.loop-choice.invariant c.loop-choice-test.false r))
