use Rattle.std.proofs.Common.{◌≡◌, ◌∷◌, List, map}
use Rattle.vd_bound_rules.specs.Written.{length_got}
use Rattle.vd_forest.specs.Forest.{tree_count}
use Rattle.vd_known_designs.specs.Designs.{IsReady, Knows}
use Rattle.vd_value_rules.specs.Aggregates.{choices_of_elements}
use Rattle.vd_value_rules.specs.Choices.{early_bounds}
use Rattle.vd_value_rules.specs.Designs.{Design}
use Rattle.vd_value_rules.specs.Knowledge.{Known}
use Rattle.vd_value_rules.specs.Lengths.{plus_length}
use Rattle.vd_bound_rules.proofs.aggregates.length_of_elements.Given as goal

abbrev pub invariant-loop-first : goal.invariant-loop-first
invariant-loop-first l = record {
  ready : IsReady l.design;
  knows : (d : Design) (ks : List Known) → Knows d l.fn.design ks → Knows d l.design ks;
  is : (d : Design) (k : Known) (ks : List Known) → Knows d l.fn.design (k ∷ ks)
      → length_got (map early_bounds (choices_of_elements d k.env l.elements)) ≡ plus_length l.length (length_got (map early_bounds (choices_of_elements d k.env l.rest)));
}

abbrev pub decreases-loop-first : goal.decreases-loop-first
decreases-loop-first l = tree_count l.rest
