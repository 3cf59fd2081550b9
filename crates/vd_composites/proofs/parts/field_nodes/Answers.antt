use Rattle.std.proofs.Common.{arith, ◌<◌, ◌≤◌, sym, ◌∙◌}
use Rattle.vd_composites.proofs.ValueLemmas.{is_record, all_fields, field_wanted, field_made, field_outside, bare_whole, bare_read}
use Rattle.vd_composites.proofs.parts.field_nodes.Goals as goal

pub returns-then-number-count : goal.returns-then-number-count
returns-then-number-count c =
    let a = is_record c.args.nodes.now c.in-Some.count c.requires (sym c.fields_at.ensures ∙ c.in-Some.is) in
    let from : c.in-Some.count ≤ c.args.number = omega arith in
    field_outside c.args.nodes.now c.in-Some.count c.args.number a from

pub items_behind-requires-clause-there : goal.items_behind-requires-clause-there
items_behind-requires-clause-there c =
    let a = is_record c.args.nodes.now c.in-Some.count c.requires (sym c.fields_at.ensures ∙ c.in-Some.is) in
    let below : c.args.number < c.in-Some.count = omega arith in
    field_wanted c.args.nodes.now c.in-Some.count c.args.number a below

pub returns-in-Ok : goal.returns-in-Ok
returns-in-Ok c =
    let a = is_record c.args.nodes.now c.in-Some.count c.requires (sym c.fields_at.ensures ∙ c.in-Some.is) in
    let below : c.args.number < c.in-Some.count = omega arith in
    (bare_whole _ _ _ _ c.in-Ok.ensures, field_made c.args.nodes.now c.in-Some.count c.args.number c.in-Ok.made.items a below (bare_read _ _ _ _ c.in-Ok.ensures))

pub items_behind-requires-clause-all : goal.items_behind-requires-clause-all
items_behind-requires-clause-all c = all_fields c.args.nodes.now c.in-Some.count (is_record c.args.nodes.now c.in-Some.count c.requires (sym c.fields_at.ensures ∙ c.in-Some.is))
