use Rattle.std.proofs.Common.{◌≡◌, arith, false, sym, true, ◌∙◌}
use Rattle.vd_static_rules.proofs.StaticLemmas.{absent_refused, at_part, there_refused}
use Rattle.vd_static_rules.proofs.statics.not_global_if_there.Goals as goal

pub returns-then-not-is_present-clause-finds : goal.returns-then-not-is_present-clause-finds
returns-then-not-is_present-clause-finds c = λ d k ks knows.
    let absent : c.is_present.result ≡ false = grind arith in
    absent_refused d k.env c.args.number c.args.parts.now
    (sym (c.is_present.ensures d.table ∙ at_part d c.args.number c.args.parts.now c.skip.result (λ m. m.is_present) c.skip.ensures) ∙ absent)

pub returns-clause-finds : goal.returns-clause-finds
returns-clause-finds c = λ d k ks knows.
    let there : c.is_present.result ≡ true = grind arith in
    there_refused d k.env c.args.number c.args.parts.now c.not_global.result
    (sym (c.is_present.ensures d.table ∙ at_part d c.args.number c.args.parts.now c.skip.result (λ m. m.is_present) c.skip.ensures) ∙ there)
    (c.not_global.ensures.finds d k ks knows)
