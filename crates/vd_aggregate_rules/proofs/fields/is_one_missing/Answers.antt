use Rattle.std.proofs.Common.{arith, suc, ◌≡◌, ◌-◌, ◌∙◌}
use Rattle.vd_aggregate_rules.proofs.FieldLemmas.{one_missing, one_there}
use Rattle.vd_aggregate_rules.proofs.fields.is_one_missing.Goals as goal

pub returns-then-not-contains : goal.returns-then-not-contains
returns-then-not-contains c = λ fs seen.
    let next : c.loop-left.left ≡ suc (c.loop-left.left - 1) = omega (arith, c.loop-left-test.true) in
    one_missing fs (c.loop-left.left - 1) c.loop-left.left c.contains.result next (c.contains.ensures ∙ seen (c.loop-left.left - 1)) c.if-not-contains.true
    ∙ c.loop-left.invariant fs seen

pub loop-left-preserved : goal.loop-left-preserved
loop-left-preserved c = λ fs seen.
    let next : c.loop-left.left ≡ suc (c.loop-left.left - 1) = omega (arith, c.loop-left-test.true) in
    one_there fs (c.loop-left.left - 1) c.loop-left.left c.contains.result next (c.contains.ensures ∙ seen (c.loop-left.left - 1)) c.if-not-contains.false
    ∙ c.loop-left.invariant fs seen
