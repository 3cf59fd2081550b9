use Rattle.std.proofs.Common.{ap}
use Rattle.vd_evaluator.specs.Outlines.{is_expression}
use Rattle.vd_evaluator.specs.Senses.{what_outline}
use Rattle.vd_evaluator.proofs.SenseLemmas.{one_value, all_values, no_values, not_all_values}
use Rattle.vd_evaluator.proofs.nodes.values_of.Goals as goal

pub loop-part-init : goal.loop-part-init
loop-part-init c = no_values c.args.parts.now c.new-values.result.items c.new-values.ensures.items

pub returns-in-NotTaken : goal.returns-in-NotTaken
returns-in-NotTaken c = not_all_values c.args.parts.now c.loop-part.part-index c.part-item.result c.loop-part-test.true c.part-item.is (ap (λ w. is_expression (what_outline w)) c.in-NotTaken.is)

pub returns-in-Word : goal.returns-in-Word
returns-in-Word c = not_all_values c.args.parts.now c.loop-part.part-index c.part-item.result c.loop-part-test.true c.part-item.is (ap (λ w. is_expression (what_outline w)) c.in-Word.is)

pub returns-in-Textual : goal.returns-in-Textual
returns-in-Textual c = not_all_values c.args.parts.now c.loop-part.part-index c.part-item.result c.loop-part-test.true c.part-item.is (ap (λ w. is_expression (what_outline w)) c.in-Textual.is)

pub loop-part-preserved : goal.loop-part-preserved
loop-part-preserved c =
    one_value c.args.parts.now c.loop-part.part-index c.loop-part.values.items c.push.new.self.items c.part-item.result c.in_ok-copy-in-Expression.copy c.loop-part-test.true c.part-item.is
    (cc (c.in_ok-copy-in-Expression.ensures, c.in-Expression.is)) c.in_ok-push-in-Expression.ensures.items c.loop-part.invariant

pub returns : goal.returns
returns c = all_values c.args.parts.now c.loop-part.part-index c.loop-part.values.items c.loop-part-test.false c.loop-part.invariant

pub returns-in-Range : goal.returns-in-Range
returns-in-Range c = not_all_values c.args.parts.now c.loop-part.part-index c.part-item.result c.loop-part-test.true c.part-item.is (ap (λ w. is_expression (what_outline w)) c.in-Range.is)

pub returns-in-Piece : goal.returns-in-Piece
returns-in-Piece c = not_all_values c.args.parts.now c.loop-part.part-index c.part-item.result c.loop-part-test.true c.part-item.is (ap (λ w. is_expression (what_outline w)) c.in-Piece.is)
