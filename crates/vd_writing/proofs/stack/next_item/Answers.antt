use Rattle.std.proofs.Common.{◌∙◌, sym}
use Rattle.vd_writing.proofs.PendingLemmas.{written_step, silent_step}
use Rattle.vd_writing.proofs.stack.next_item.Goals as goal

pub returns-then-is_some-clause-given : goal.returns-then-is_some-clause-given
returns-then-is_some-clause-given c =
    written_step c.args.rows.now c.loop-step.rows c.args.stack.now.items c.loop-step.stack.items c.pop.new.self.items c.write_frame.new.stack.items c.in-Some.frame c.in_ok-item.item
    c.loop-step.invariant.0 c.loop-step.invariant.1 c.in-Some.ensures.items c.in_ok-item.ensures.given

pub loop-step-preserved : goal.loop-step-preserved
loop-step-preserved c = (
  c.in_ok-item.ensures.unchanged ∙ c.loop-step.invariant.0,
  silent_step c.args.rows.now c.loop-step.rows c.args.stack.now.items c.loop-step.stack.items c.pop.new.self.items c.write_frame.new.stack.items c.in-Some.frame c.in_ok-item.item
      c.loop-step.invariant.0 c.loop-step.invariant.1 c.in-Some.ensures.items c.in_ok-item.ensures.given (sym c.is_some.ensures ∙ c.if-is_some.false),
)
