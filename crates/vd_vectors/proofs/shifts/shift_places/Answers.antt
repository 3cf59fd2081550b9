use Rattle.std.proofs.Common.{◌≡◌, sym, ap, ◌∙◌, subst}
use Rattle.std.specs.Prelude.{IfOk}
use Rattle.vd_vectors.specs.Moves.{filled_left, filled_right}
use Rattle.vd_vectors.specs.Shifts.{places}
use Rattle.vd_vectors.proofs.ShiftLemmas.{logical_left, logical_right, arithmetic_left, arithmetic_right}
use Rattle.vd_vectors.proofs.shifts.shift_places.Goals as goal

pub returns-in-LogicalLeft : goal.returns-in-LogicalLeft
returns-in-LogicalLeft c =
    subst (λ xs. IfOk c.fill_left.result (λ made. made.items ≡ xs))
    (sym (logical_left c.args.count c.args.values.now) ∙ ap (λ o. places c.args.count o c.args.values.now) (sym c.in-LogicalLeft.is)) c.fill_left.ensures

pub returns-in-LogicalRight : goal.returns-in-LogicalRight
returns-in-LogicalRight c =
    subst (λ xs. IfOk c.fill_right.result (λ made. made.items ≡ xs))
    (sym (logical_right c.args.count c.args.values.now) ∙ ap (λ o. places c.args.count o c.args.values.now) (sym c.in-LogicalRight.is)) c.fill_right.ensures

pub returns-in-ArithmeticLeft : goal.returns-in-ArithmeticLeft
returns-in-ArithmeticLeft c =
    subst (λ xs. IfOk c.fill_left-in-ArithmeticLeft.result (λ made. made.items ≡ xs))
    (ap (λ f. filled_left f c.args.count c.args.values.now) c.last_of.ensures
    ∙ sym (arithmetic_left c.args.count c.args.values.now)
    ∙ ap (λ o. places c.args.count o c.args.values.now) (sym c.in-ArithmeticLeft.is)) c.fill_left-in-ArithmeticLeft.ensures

pub returns-in-ArithmeticRight : goal.returns-in-ArithmeticRight
returns-in-ArithmeticRight c =
    subst (λ xs. IfOk c.fill_right-in-ArithmeticRight.result (λ made. made.items ≡ xs))
    (ap (λ f. filled_right f c.args.count c.args.values.now) c.first_of.ensures
    ∙ sym (arithmetic_right c.args.count c.args.values.now)
    ∙ ap (λ o. places c.args.count o c.args.values.now) (sym c.in-ArithmeticRight.is)) c.fill_right-in-ArithmeticRight.ensures
