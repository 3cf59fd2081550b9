use Rattle.std.proofs.Common.{◌≡◌, ◌∷◌, List}
use Rattle.vd_forest.specs.Forest.{tree_count}
use Rattle.vd_known_designs.specs.Designs.{Knows}
use Rattle.vd_walks.specs.Least.{least_of, lesser}
use Rattle.vd_value_rules.specs.Designs.{Design}
use Rattle.vd_value_rules.specs.Knowledge.{Known}
use Rattle.vd_value_rules.specs.StaticNames.{not_static_signals}
use Rattle.vd_static_rules.proofs.statics.listed_signals.Given as goal

abbrev pub invariant-loop-first : goal.invariant-loop-first
invariant-loop-first l = record {
  finds : (d : Design) (k : Known) (ks : List Known) → Knows d l.fn.design (k ∷ ks)
      → lesser l.found (least_of (not_static_signals d k.env l.rest)) ≡ least_of (not_static_signals d k.env l.names);
  knows : (d : Design) (ks : List Known) → Knows d l.fn.design ks → Knows d l.design ks;
}

abbrev pub decreases-loop-first : goal.decreases-loop-first
decreases-loop-first l = tree_count l.rest
