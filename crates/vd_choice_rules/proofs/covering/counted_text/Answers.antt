use Rattle.std.proofs.Common.{SFits, ap, get_or, pos, rules, w64, ℤ, ◌+ℤ◌, ◌∙◌}
use Rattle.std.proofs.lemmas.Int.{to_z-of_z}
use Rattle.vd_given_choices.specs.Covering.{middle}
use Rattle.vd_choice_rules.proofs.CountLemmas.{number_more}
use Rattle.vd_choice_rules.proofs.covering.counted_text.Goals as goal

pub loop-position-preserved : goal.loop-position-preserved
loop-position-preserved c =
    let p : ℤ = get_or c.args.positions.now c.loop-position.position-index (pos 0) in
    let fits : SFits w64 p = search rules in
    number_more c.args.positions.now c.loop-position.position-index c.counted.result c.loop-position.numbers.items c.push.new.self.items (pos 0)
    c.loop-position-test.true (c.counted.ensures ∙ ap (λ i. i +ℤ pos middle) (to_z-of_z w64 p fits)) c.in_ok-push.ensures.items c.loop-position.invariant
