use Rattle.std.proofs.Common.{ap, arith, get_or, length, map, nat_eq, take_all, ◌<◌, ◌≤◌, ◌∙◌}
use Rattle.indexmap.specs.IndexSet.{contains}
use Rattle.vd_aggregate_rules.proofs.FieldLemmas.{given_at, given_length, refused_end, refused_more, seen_more}
use Rattle.vd_aggregate_rules.specs.Fields.{field_given}
use Rattle.vd_aggregate_rules.specs.declared.fields.Field.{Field}
use Rattle.vd_walks.specs.Least.{least_of}
use Rattle.vd_value_rules.specs.Aggregates.{is_given_at}
use Rattle.vd_value_rules.specs.Judging.{refused_if}
use Rattle.vd_aggregate_rules.proofs.fields.refused_fields.Goals as goal

no_field : Field
no_field = record { position = 0; place = record { file = 0; line = 0; column = 0 } }

pub loop-field-preserved : goal.loop-field-preserved
unfolding no_field
loop-field-preserved c =
    let xs = c.args.fields.now in
    let gs = map field_given xs in
    let j = c.loop-field.field-index in
    let x = get_or xs j no_field in
    let within : j < length gs = omega (arith, given_length xs, c.loop-field-test.true) in
    let at = given_at xs j no_field c.loop-field-test.true in
    let seen = c.loop-field.invariant.seen in
    record {
      seen = λ k. seen_more gs j (field_given x) within at k (contains nat_eq c.loop-field.seen k) (contains nat_eq c.insert.new.self k)
          (c.in_ok-is_new.ensures.updates.0 k) (seen k);
      found = refused_more gs j (field_given x) within at (contains nat_eq c.loop-field.seen x.position) c.in_ok-is_new.is_new c.loop-field.found
          c.refused_if-refused.result c.lesser-found.result _ c.in_ok-is_new.ensures.added (seen x.position) c.refused_if-refused.ensures c.lesser-found.ensures
          c.loop-field.invariant.found;
    }

pub returns : goal.returns
returns c =
    let xs = c.args.fields.now in
    let gs = map field_given xs in
    let j = c.loop-field.field-index in
    let past : length gs ≤ j = omega (arith, given_length xs, c.loop-field-test.false) in
    refused_end gs j c.args.count c.args.place c.args.has_others c.is_one_missing-is_missing.result c.loop-field.found c.refused_if-missing.result c.lesser.result past
    c.loop-field.invariant.found (c.is_one_missing-is_missing.ensures gs (λ k. c.loop-field.invariant.seen k ∙ ap (is_given_at k) (take_all j gs past)))
    (c.refused_if-missing.ensures ∙ ap (λ b. least_of (refused_if b c.args.place 403)) c.is_left_out.ensures) c.lesser.ensures
