use Rattle.std.proofs.Common.{◌≡◌, [], drop, map, nat_eq, take, ℕ}
use Rattle.indexmap.specs.IndexSet.{contains}
use Rattle.vd_aggregate_rules.specs.Fields.{field_given}
use Rattle.vd_walks.specs.Least.{least_of, lesser}
use Rattle.vd_value_rules.specs.Aggregates.{fields_repeated, is_given_at}
use Rattle.vd_aggregate_rules.proofs.fields.refused_fields.Given as goal

abbrev pub invariant-loop-field : goal.invariant-loop-field
invariant-loop-field l = record {
  seen : (k : ℕ) → contains nat_eq l.seen k ≡ is_given_at k (take l.field-index (map field_given l.fields));
  found : lesser l.found (least_of (fields_repeated (take l.field-index (map field_given l.fields)) (drop l.field-index (map field_given l.fields))))
      ≡ least_of (fields_repeated [] (map field_given l.fields));
}
