use Rattle.std.proofs.Common.{◌∷◌, List}
use Rattle.vd_forest.specs.Forest.{tree_count}
use Rattle.vd_forest.specs.Store.{Extends}
use Rattle.vd_known_designs.specs.Designs.{Knows}
use Rattle.vd_known_generics.proofs.InstanceLemmas.{KnownSoFar}
use Rattle.vd_value_rules.specs.Declaring.{parameters_known}
use Rattle.vd_value_rules.specs.Designs.{Design}
use Rattle.vd_value_rules.specs.Knowledge.{Known}
use Rattle.vd_known_generics.proofs.instances.parameters_known.Given as goal

abbrev pub invariant-loop-first : goal.invariant-loop-first
invariant-loop-first l = record {
  knows : (d : Design) (k : Known) (ks : List Known) → Knows d l.fn.design (k ∷ ks)
      → KnownSoFar d l.design ks (parameters_known d l.rest) (parameters_known d l.parameters k);
  extends : Extends l.fn.design.table.subtypes l.design.table.subtypes;
}

abbrev pub decreases-loop-first : goal.decreases-loop-first
decreases-loop-first l = tree_count l.rest
