use Rattle.std.proofs.Common.{refl}
use Rattle.vd_aggregate_rules.proofs.FieldLemmas.{named_all, named_more}
use Rattle.vd_aggregate_rules.proofs.fields.choice_fields.Goals as goal

pub position_of-requires : goal.position_of-requires
position_of-requires c =
    let r = c.requires.ready in
    record { ready = record { design = r.design; now = r.now; round = r.round; knows = c.loop-first.invariant.knows r.design _ r.knows } }

pub loop-first-preserved : goal.loop-first-preserved
loop-first-preserved c =
    let n = c.in-Some.first in
    record {
      knows = λ d ks knows. c.in_ok-position.ensures.knows d ks (c.loop-first.invariant.knows d ks knows);
      fields = λ d k ks knows. named_more d c.loop-first.rest n.form n.text.now n.place n.parts n.next c.loop-first.fields.items c.push.new.self.items _ _
          c.in-Some.ensures c.in_ok-push.ensures.items (c.in_ok-position.ensures.position d k ks (c.loop-first.invariant.knows d _ knows)) refl
          (c.loop-first.invariant.fields d k ks knows);
    }

pub returns-clause-fields : goal.returns-clause-fields
returns-clause-fields c = λ d k ks knows.
    named_all d c.loop-first.rest c.loop-first.fields.items _ c.in_default.ensures (c.loop-first.invariant.fields d k ks knows)
