use Rattle.vd_choice_rules.proofs.ScalarLemmas.{not_all_known, value_left}
use Rattle.vd_choice_rules.proofs.selecting_scalars.leave_out.Goals as goal

pub returns-then-not-are_all_known : goal.returns-then-not-are_all_known
returns-then-not-are_all_known c = λ gs are.
    not_all_known c.args.choices.now gs are c.args.taken c.are_all_known.result c.are_all_known.ensures c.if-not-are_all_known.true

pub returns : goal.returns
returns c = λ gs are.
    value_left c.args.choices.now gs are c.args.taken c.are_all_known.result c.in_ok-covered.covered c.in_ok-bounds.bounds.items c.deref.result.now
    c.are_all_known.ensures c.if-not-are_all_known.false c.in_ok-bounds.ensures c.deref.ensures.value c.in_ok-covered.ensures
