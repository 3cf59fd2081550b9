use Rattle.std.proofs.Common.{◌∷◌, List}
use Rattle.vd_forest.specs.Forest.{tree_count}
use Rattle.vd_forest.specs.Store.{Extends}
use Rattle.vd_known_designs.specs.Designs.{IsReady, Knows}
use Rattle.vd_known_forms.proofs.FormLemmas.{Left}
use Rattle.vd_value_rules.specs.Declaring.{parameters_known}
use Rattle.vd_value_rules.specs.Designs.{Design}
use Rattle.vd_value_rules.specs.Knowledge.{Known}
use Rattle.vd_known_forms.proofs.function_forms.parameters_known.Given as goal

abbrev pub invariant-loop-first : goal.invariant-loop-first
invariant-loop-first l = record {
  ready : IsReady l.design;
  left : (d : Design) (k : Known) (ks : List Known) → Knows d l.fn.design (k ∷ ks) → Left d l.design l.rest (parameters_known d l.parameters k) ks;
  extends : Extends l.fn.design.table.subtypes l.design.table.subtypes;
}

abbrev pub decreases-loop-first : goal.decreases-loop-first
decreases-loop-first l = tree_count l.rest
