use Rattle.std.proofs.Common.{arith, ◌<◌, ◌≤◌, sym, ◌∙◌}
use Rattle.vd_values.specs.declared.scalar.StopKind.TheVariants.{Range}
use Rattle.vd_composites.specs.Parts.{AtField}
use Rattle.vd_composites.specs.Nodes.{read, value_in}
use Rattle.vd_composites.proofs.ValueLemmas.{is_record, all_fields, field_wanted, field_outside}
use Rattle.vd_composites.proofs.ReplacedLemmas.{stops_too, field_replaced}
use Rattle.vd_composites.proofs.replacing.with_field_nodes.Goals as goal

pub returns-then-number-count : goal.returns-then-number-count
returns-then-number-count c =
    let a = is_record c.args.nodes.now c.in-Some.count c.requires.value (sym c.fields_at.ensures ∙ c.in-Some.is) in
    let from : c.in-Some.count ≤ c.args.number = omega arith in
    stops_too (AtField c.args.number) (value_in (read c.args.new.now)) (value_in (read c.args.nodes.now)) Range (field_outside c.args.nodes.now c.in-Some.count c.args.number a from)

pub items_replaced-requires-clause-there : goal.items_replaced-requires-clause-there
items_replaced-requires-clause-there c =
    let a = is_record c.args.nodes.now c.in-Some.count c.requires.value (sym c.fields_at.ensures ∙ c.in-Some.is) in
    let below : c.args.number < c.in-Some.count = omega arith in
    field_wanted c.args.nodes.now c.in-Some.count c.args.number a below

pub returns-in-Ok : goal.returns-in-Ok
returns-in-Ok c =
    let a = is_record c.args.nodes.now c.in-Some.count c.requires.value (sym c.fields_at.ensures ∙ c.in-Some.is) in
    let below : c.args.number < c.in-Some.count = omega arith in
    field_replaced c.args.nodes.now c.in-Some.count c.args.number c.args.new.now c.in-Ok.made.items a below c.requires.field c.in-Ok.ensures

pub items_replaced-requires-clause-all : goal.items_replaced-requires-clause-all
items_replaced-requires-clause-all c = all_fields c.args.nodes.now c.in-Some.count (is_record c.args.nodes.now c.in-Some.count c.requires.value (sym c.fields_at.ensures ∙ c.in-Some.is))
