use Rattle.vd_choice_rules.proofs.AlternativeLemmas.{made_all, made_more}
use Rattle.vd_choice_rules.proofs.alternatives.alternative_choices.Goals as goal

pub choices_at-requires : goal.choices_at-requires
choices_at-requires c =
    let r = c.requires.ready in
    record { ready = record { design = r.design; now = r.now; round = r.round; knows = c.loop-first.invariant.knows r.design _ r.knows } }

pub loop-first-preserved : goal.loop-first-preserved
loop-first-preserved c =
    let n = c.in-Some.first in
    record {
      knows = λ d ks knows. c.in_ok-choices.ensures.knows d ks (c.loop-first.invariant.knows d ks knows);
      made = λ d k ks knows. made_more d k.env c.args.number c.args.alternatives.now c.loop-first.rest n.form n.text.now n.place n.parts n.next c.skip.result
          c.loop-first.all.items c.in_ok-choices.choices.items c.add_choices.new.choices.items c.in-Some.ensures c.skip.ensures c.in_ok-add_choices.ensures
          (c.in_ok-choices.ensures.choices d k ks (c.loop-first.invariant.knows d _ knows)) (c.loop-first.invariant.made d k ks knows);
    }

pub returns-clause-choices : goal.returns-clause-choices
returns-clause-choices c = λ d k ks knows.
    made_all d k.env c.args.number c.args.alternatives.now c.loop-first.rest c.loop-first.all.items c.in_default.ensures (c.loop-first.invariant.made d k ks knows)
