use Rattle.std.proofs.Common.{sym, ap, ◌∙◌}
use Rattle.vd_composites.specs.Nodes.{fields_in}
use Rattle.vd_composites.proofs.ValueLemmas.{is_record, record_fits, record_fails}
use Rattle.vd_composites.proofs.fitting.fit_record_nodes.Goals as goal

pub returns-then-own-fields : goal.returns-then-own-fields
returns-then-own-fields c of many =
    let a = is_record c.args.nodes.items c.in-Some.own c.requires (ap fields_in (sym c.deref.ensures.value) ∙ sym c.fields_at.ensures ∙ c.in-Some.is) in
    record_fails c.args.nodes.items c.in-Some.own c.args.fields of a c.if-own-fields.true many

pub returns : goal.returns
returns c of many =
    let a = is_record c.args.nodes.items c.in-Some.own c.requires (ap fields_in (sym c.deref.ensures.value) ∙ sym c.fields_at.ensures ∙ c.in-Some.is) in
    (c.requires, record_fits c.args.nodes.items c.in-Some.own c.args.fields of a c.if-own-fields.false many)
