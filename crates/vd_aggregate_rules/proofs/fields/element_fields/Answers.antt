use Rattle.vd_aggregate_rules.proofs.FieldLemmas.{association_fields}
use Rattle.vd_aggregate_rules.proofs.fields.element_fields.Goals as goal

pub returns-in-Association-clause-fields : goal.returns-in-Association-clause-fields
returns-in-Association-clause-fields c = λ d k ks knows.
    let n = c.args.element.now in
    association_fields n.form.form d c.args.before n.place n.parts c.parts.result c.args.fields.now.items c.choice_fields.new.fields.items c.choice_fields.result
    c.in-Association.is c.parts.ensures (c.choice_fields.ensures.fields d k ks knows)
