use Rattle.std.proofs.Common.{ap, length, slice_index_or, sym, ◌∙◌}
use Rattle.vd_meaning.specs.Tables.{no_declaration}
use Rattle.vd_aggregate_rules.proofs.AnswerLemmas.{of_arrays, of_records}
use Rattle.vd_aggregate_rules.proofs.aggregates.refused_of_type.Goals as goal

pub returns-then-is_record-clause-refused : goal.returns-then-is_record-clause-refused
returns-then-is_record-clause-refused c = λ d k ks knows.
    of_records d k.env c.args.is_bounded c.args.place c.args.elements.now c.refused_record.result c.args.mark c.in-Some.mark (length c.parameters_of-count.result.now) c.is_record.result
    c.in-Some.is (c.is_record.ensures d _ knows) c.if-is_record.true
    (ap length c.parameters_of-count.ensures
    ∙ ap (λ k. length (slice_index_or c.args.design.now.declarations.now k no_declaration).parameters) c.number.ensures ∙ sym (ap (λ t. length (t.declared c.in-Some.mark).parameters) knows.table))
    (c.refused_record.ensures.refused d k ks knows)

pub returns-else-is_record-clause-refused : goal.returns-else-is_record-clause-refused
returns-else-is_record-clause-refused c = λ d k ks knows.
    of_arrays d k.env c.args.is_bounded c.args.place c.args.elements.now c.refused_array.result c.args.mark c.in-Some.mark c.is_record.result
    c.in-Some.is (c.is_record.ensures d _ knows) c.if-is_record.false (c.refused_array.ensures.refused d k ks knows)
