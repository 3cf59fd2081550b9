use Rattle.std.proofs.Common.{◌≡◌, ◌∷◌, List}
use Rattle.vd_forest.specs.Forest.{tree_count}
use Rattle.vd_known_designs.specs.Designs.{IsReady, Knows}
use Rattle.vd_walks.specs.Least.{least_of, lesser}
use Rattle.vd_value_rules.specs.Bounds.{indefinite_arguments}
use Rattle.vd_value_rules.specs.Designs.{Design}
use Rattle.vd_value_rules.specs.Knowledge.{Known}
use Rattle.vd_value_rules.specs.Standings.{State}
use Rattle.vd_bound_rules.proofs.operands.arguments.Given as goal

abbrev pub invariant-loop-first : goal.invariant-loop-first
invariant-loop-first l = record {
  ready : IsReady l.design;
  knows : (d : Design) (ks : List Known) → Knows d l.fn.design ks → Knows d l.design ks;
  is : (d : Design) (s : State) (ks : List Known) → Knows d l.fn.design (s.known ∷ ks)
      → least_of (indefinite_arguments d s l.trees) ≡ lesser l.found (least_of (indefinite_arguments d s l.rest));
}

abbrev pub decreases-loop-first : goal.decreases-loop-first
decreases-loop-first l = tree_count l.rest
