use Rattle.std.proofs.Common.{◌+◌, arith, drop, map}
use Rattle.std.proofs.lemmas.List.{drop_all}
use Rattle.vd_bound_rules.proofs.LengthLemmas.{choice_here, comes_at_first, comes_at_last, comes_further}
use Rattle.vd_value_rules.specs.Choices.{early_bounds}
use Rattle.vd_bound_rules.proofs.aggregates.length_of_choices.Goals as goal

pub loop-choice-init : goal.loop-choice-init
loop-choice-init c = λ gs are. comes_at_first c.args.choices.now gs are

pub loop-choice-preserved : goal.loop-choice-preserved
loop-choice-preserved c = λ gs are.
    let xs = c.args.choices.now in
    let i = c.loop-choice.choice-index in
    let x = c.choice-item.result in
    comes_further c.loop-choice.length c.length_of_choice.result c.in_ok-length.length x (drop (i + 1) xs) (drop i xs) (map early_bounds gs)
    (choice_here xs i x c.loop-choice-test.true c.choice-item.is) c.length_of_choice.ensures c.in_ok-length.ensures (c.loop-choice.invariant gs are)

pub returns : goal.returns
returns c = λ gs are.
    let xs = c.args.choices.now in
    let i = c.loop-choice.choice-index in
    comes_at_last c.loop-choice.length (drop i xs) (map early_bounds gs) (drop_all i xs (omega arith)) (c.loop-choice.invariant gs are)
