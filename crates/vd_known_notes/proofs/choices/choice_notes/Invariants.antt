use Rattle.std.proofs.Common.{List}
use Rattle.vd_forest.specs.Forest.{tree_count}
use Rattle.vd_known_designs.specs.Designs.{Knows}
use Rattle.vd_value_rules.specs.Designs.{Design}
use Rattle.vd_value_rules.specs.Knowledge.{Known}
use Rattle.vd_known_notes.proofs.choices.choice_notes.Given as goal

abbrev pub invariant-loop-choice : goal.invariant-loop-choice
invariant-loop-choice l = record {
  knows : (d : Design) (ks : List Known) → Knows d l.fn.design ks → Knows d l.design ks;
}

abbrev pub decreases-loop-choice : goal.decreases-loop-choice
decreases-loop-choice l = tree_count l.rest
