use Rattle.std.proofs.Common.{◌∷◌, List}
use Rattle.vd_choice_rules.proofs.AlternativeLemmas.{IsMade}
use Rattle.vd_forest.specs.Forest.{tree_count}
use Rattle.vd_known_designs.specs.Designs.{Knows}
use Rattle.vd_value_rules.specs.Designs.{Design}
use Rattle.vd_value_rules.specs.Knowledge.{Known}
use Rattle.vd_choice_rules.proofs.alternatives.alternative_choices.Given as goal

abbrev pub invariant-loop-first : goal.invariant-loop-first
invariant-loop-first l = record {
  knows : (d : Design) (ks : List Known) → Knows d l.fn.design ks → Knows d l.design ks;
  made : (d : Design) (k : Known) (ks : List Known) → Knows d l.fn.design (k ∷ ks) → IsMade d k.env l.fn.number l.alternatives l.rest l.all.items;
}

abbrev pub decreases-loop-first : goal.decreases-loop-first
decreases-loop-first l = tree_count l.rest
