use Rattle.std.proofs.Common.{true≢false, sym, subst, refl}
use Rattle.vd_choices.proofs.Sweeps.{IsSwept, here, here-is, swept_gap, swept_whole, swept_more, swept_same}
use Rattle.vd_choices.proofs.intervals.covers_in_order.Goals as goal
use Rattle.vd_choices.proofs.intervals.covers_in_order.Goals.{then-next-choice-2+else-within-choice, else-next-choice-2}

pub returns-then-next-choice : goal.returns-then-next-choice
returns-then-next-choice c = (
  (λ t. absurd (true≢false (sym t))),
  (λ covered. absurd (swept_gap _ _ _ _ c.loop-choice.invariant (here c.args.sorted.now c.loop-choice.choice-index) c.loop-choice-test.true (here-is _ _ c.loop-choice-test.true) c.requires c.if-next-choice.true covered)),
)

pub returns-then-within-choice : goal.returns-then-within-choice
returns-then-within-choice c = (
  λ t. swept_whole _ _ _ _ c.loop-choice.invariant (here c.args.sorted.now c.loop-choice.choice-index) c.loop-choice-test.true (here-is _ _ c.loop-choice-test.true) c.if-next-choice.false c.if-within-choice.true,
  λ covered. refl,
)

pub loop-choice-preserved : goal.loop-choice-preserved
loop-choice-preserved c =
    elim c.if-next-choice-2.branch [
      | then-next-choice-2+else-within-choice w ↦ subst (IsSwept _ _ _) (sym w.next-is) (swept_more _ _ _ _ c.loop-choice.invariant (here c.args.sorted.now c.loop-choice.choice-index) c.loop-choice-test.true (here-is _ _ c.loop-choice-test.true) c.if-next-choice.false w.if-next-choice-2.true w.if-within-choice.false)
      | else-next-choice-2 w ↦ subst (IsSwept _ _ _) (sym w.next-is) (swept_same _ _ _ _ c.loop-choice.invariant (here c.args.sorted.now c.loop-choice.choice-index) c.loop-choice-test.true (here-is _ _ c.loop-choice-test.true) w.if-next-choice-2.false)
    ]
