use Rattle.std.proofs.Common.{◌≡◌, ◌++◌, ◌∷◌, List, map}
use Rattle.vd_aggregate_rules.specs.Fields.{field_given}
use Rattle.vd_forest.specs.Forest.{tree_count}
use Rattle.vd_known_designs.specs.Designs.{Knows}
use Rattle.vd_value_rules.specs.Aggregates.{fields_given}
use Rattle.vd_value_rules.specs.Designs.{Design}
use Rattle.vd_value_rules.specs.Knowledge.{Known}
use Rattle.vd_aggregate_rules.proofs.fields.fields_given.Given as goal

abbrev pub invariant-loop-first : goal.invariant-loop-first
invariant-loop-first l = record {
  knows : (d : Design) (ks : List Known) → Knows d l.fn.design ks → Knows d l.design ks;
  fields : (d : Design) (k : Known) (ks : List Known) → Knows d l.fn.design (k ∷ ks)
      → map field_given l.fields.items ++ fields_given d l.before l.rest ≡ fields_given d 0 l.elements;
}

abbrev pub decreases-loop-first : goal.decreases-loop-first
decreases-loop-first l = tree_count l.rest
