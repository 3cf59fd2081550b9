use Rattle.std.proofs.Common.{◌≡◌, ◌++◌, ◌∷◌, List, map}
use Rattle.vd_aggregate_rules.specs.Fields.{field_given}
use Rattle.vd_forest.specs.Forest.{tree_count}
use Rattle.vd_known_designs.specs.Designs.{Knows}
use Rattle.vd_value_rules.specs.Aggregates.{fields_of_choices}
use Rattle.vd_value_rules.specs.Designs.{Design}
use Rattle.vd_value_rules.specs.Knowledge.{Known}
use Rattle.vd_aggregate_rules.proofs.fields.choice_fields.Given as goal

abbrev pub invariant-loop-first : goal.invariant-loop-first
invariant-loop-first l = record {
  knows : (d : Design) (ks : List Known) → Knows d l.fn.design ks → Knows d l.design ks;
  fields : (d : Design) (k : Known) (ks : List Known) → Knows d l.fn.design (k ∷ ks)
      → map field_given l.fields.items ++ fields_of_choices d l.rest ≡ map field_given l.fn.fields.items ++ fields_of_choices d l.choices;
}

abbrev pub decreases-loop-first : goal.decreases-loop-first
decreases-loop-first l = tree_count l.rest
