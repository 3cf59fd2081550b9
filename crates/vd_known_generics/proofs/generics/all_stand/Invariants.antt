use Rattle.std.proofs.Common.{List}
use Rattle.vd_forest.specs.Forest.{tree_count}
use Rattle.vd_forest.specs.Store.{Extends}
use Rattle.vd_known_generics.specs.Standing.{Stands, StandsSoFar}
use Rattle.vd_value_rules.specs.Declaring.{KnownAndLeft, generics_stand}
use Rattle.vd_value_rules.specs.Designs.{Design}
use Rattle.vd_value_rules.specs.Knowledge.{Known}
use Rattle.vd_known_generics.proofs.generics.all_stand.Given as goal

abbrev pub invariant-loop-first : goal.invariant-loop-first
invariant-loop-first l = record {
  stands : (d : Design) (s : KnownAndLeft) (ks : List Known) → Stands d l.fn.design l.actuals s ks
      → StandsSoFar d l.design l.left ks (λ r. generics_stand d l.rest r.left r.known) (generics_stand d l.generics s.left s.known);
  extends : Extends l.fn.design.table.subtypes l.design.table.subtypes;
}

abbrev pub decreases-loop-first : goal.decreases-loop-first
decreases-loop-first l = tree_count l.rest
