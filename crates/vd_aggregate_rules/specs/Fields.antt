-- Elements of records that are given, in memory.
use Rattle.std.specs.Prelude.{Bool, List, [], not, ◌&&◌, ◌++◌, ℕ}
use Rattle.vd_aggregate_rules.specs.declared.fields.Field.{Field}
use Rattle.vd_bytes.specs.declared.answers.Refused.{Refused}
use Rattle.vd_bytes.specs.declared.places.Place.{Place}
use Rattle.vd_value_rules.specs.Aggregates.{FieldGiven, fields_repeated, record_leaves_out}
use Rattle.vd_value_rules.specs.Judging.{refused_if}

abbrev pub field_given : Field → FieldGiven
field_given x = record { position = x.position; place = x.place }

-- what is refused of the elements of a record that has so many
abbrev pub fields_broken : ℕ → Place → Bool → List FieldGiven → List Refused
fields_broken count place has_others fs = fields_repeated [] fs ++ refused_if (not has_others && record_leaves_out count fs) place 403
