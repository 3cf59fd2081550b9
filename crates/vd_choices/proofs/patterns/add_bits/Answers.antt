use Rattle.std.proofs.Common.{◌≡◌, true, sym, ◌∙◌}
use Rattle.vd_choices.specs.Bits.{are_bits}
use Rattle.vd_choices.proofs.PatternLemmas.{were_there, with_more}
use Rattle.vd_choices.proofs.patterns.add_bits.Goals as goal

pub returns-clause-answer : goal.returns-clause-answer
returns-clause-answer c =
    let stand : are_bits c.args.elements.now ≡ true = sym c.are_bits.ensures ∙ c.if-not-are_bits.false in
    were_there c.args.elements.now c.args.seen.now.keys c.in_ok-bits.bits stand c.in_ok-bits.ensures c.in_ok-is_new.is_new c.in_ok-is_new.ensures.added

pub returns-clause-keys : goal.returns-clause-keys
returns-clause-keys c =
    let stand : are_bits c.args.elements.now ≡ true = sym c.are_bits.ensures ∙ c.if-not-are_bits.false in
    with_more c.args.elements.now c.args.seen.now.keys c.in_ok-bits.bits stand c.in_ok-bits.ensures c.insert.new.self.keys c.in_ok-is_new.ensures.keys
