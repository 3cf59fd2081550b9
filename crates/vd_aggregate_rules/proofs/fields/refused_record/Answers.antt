use Rattle.std.proofs.Common.{ap, ap₂, map, ◌∙◌}
use Rattle.vd_aggregate_rules.proofs.AnswerLemmas.{found_same}
use Rattle.vd_aggregate_rules.specs.Fields.{field_given, fields_broken}
use Rattle.vd_walks.specs.Least.{least_of}
use Rattle.vd_aggregate_rules.proofs.fields.refused_record.Goals as goal

pub returns-clause-refused : goal.returns-clause-refused
returns-clause-refused c = λ d k ks knows.
    found_same _ _ c.refused_fields.result
    (ap₂ (λ fs h. least_of (fields_broken c.args.count c.args.place h fs)) (ap (λ xs. map field_given xs) c.deref.ensures.value ∙ c.in_ok-fields.ensures.fields d k ks knows)
    c.has_others.ensures) c.refused_fields.ensures
