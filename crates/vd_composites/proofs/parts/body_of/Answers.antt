use Rattle.std.proofs.Common.{arith, ◌≤◌, ◌+◌, length, drop, sym, ap, ◌∙◌}
use Rattle.vd_composites.specs.Ranges.{length_of}
use Rattle.vd_composites.specs.Nodes.{after}
use Rattle.vd_composites.proofs.ValueLemmas.{is_array, is_record, array_parts, record_parts}
use Rattle.vd_composites.proofs.parts.body_of.Goals as goal

pub overflow_cast-result : goal.overflow_cast-result
overflow_cast-result c =
    let a = is_array c.args.nodes.now c.in-Some.bounds c.requires (sym c.bounds_at.ensures ∙ c.in-Some.is) in
    let long : length_of c.in-Some.bounds + 2 ≤ length c.args.nodes.now = a.long in
    omega arith

pub returns-in-Some-clause-whole : goal.returns-in-Some-clause-whole
returns-in-Some-clause-whole c =
    let a = is_array c.args.nodes.now c.in-Some.bounds c.requires (sym c.bounds_at.ensures ∙ c.in-Some.is) in
    ap (λ n. after n (drop 2 c.args.nodes.now)) c.length.ensures ∙ a.whole

pub returns-in-Some-clause-parts : goal.returns-in-Some-clause-parts
returns-in-Some-clause-parts c = array_parts c.args.nodes.now c.in-Some.bounds (is_array c.args.nodes.now c.in-Some.bounds c.requires (sym c.bounds_at.ensures ∙ c.in-Some.is))

pub returns-in-Some-fields_at-clause-whole : goal.returns-in-Some-fields_at-clause-whole
returns-in-Some-fields_at-clause-whole c = (is_record c.args.nodes.now c.in-Some-fields_at.count c.requires (sym c.fields_at.ensures ∙ c.in-Some-fields_at.is)).whole

pub returns-in-Some-fields_at-clause-parts : goal.returns-in-Some-fields_at-clause-parts
returns-in-Some-fields_at-clause-parts c = record_parts c.args.nodes.now c.in-Some-fields_at.count (is_record c.args.nodes.now c.in-Some-fields_at.count c.requires (sym c.fields_at.ensures ∙ c.in-Some-fields_at.is))
