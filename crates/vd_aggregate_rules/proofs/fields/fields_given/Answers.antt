use Rattle.vd_aggregate_rules.proofs.FieldLemmas.{given_all, given_more}
use Rattle.vd_aggregate_rules.proofs.fields.fields_given.Goals as goal

pub element_fields-requires : goal.element_fields-requires
element_fields-requires c =
    let r = c.requires.ready in
    record { ready = record { design = r.design; now = r.now; round = r.round; knows = c.loop-first.invariant.knows r.design _ r.knows } }

pub loop-first-preserved : goal.loop-first-preserved
loop-first-preserved c =
    let n = c.in-Some.first in
    record {
      knows = λ d ks knows. c.in_ok-element_fields.ensures.knows d ks (c.loop-first.invariant.knows d ks knows);
      fields = λ d k ks knows.
          given_more d c.loop-first.rest n.form n.text.now n.place n.parts n.next c.loop-first.before c.in_ok-before.before c.loop-first.fields.items c.element_fields.new.fields.items _
          c.in-Some.ensures c.in_ok-before.ensures (c.in_ok-element_fields.ensures.fields d k ks (c.loop-first.invariant.knows d _ knows))
          (c.loop-first.invariant.fields d k ks knows);
    }

pub returns-clause-fields : goal.returns-clause-fields
returns-clause-fields c = λ d k ks knows.
    given_all d c.loop-first.rest c.loop-first.before c.loop-first.fields.items _ c.in_default.ensures (c.loop-first.invariant.fields d k ks knows)
