use Rattle.std.proofs.Common.{◌≡◌, ◌≤◌, ◌∷◌, List, [], false, length, true}
use Rattle.vd_forest.specs.Forest.{tree_count}
use Rattle.vd_forest.specs.Store.{Extends, at}
use Rattle.vd_value_rules.specs.Indicated.{fields_in}
use Rattle.vd_known_designs.specs.Designs.{IsReady, Knows}
use Rattle.vd_known_forms.specs.Fields.{in_front}
use Rattle.vd_value_rules.specs.Designs.{Design}
use Rattle.vd_value_rules.specs.Knowledge.{Known, fields_defined}
use Rattle.vd_known_forms.proofs.records.all_fields.Given as goal

abbrev pub invariant-loop-first : goal.invariant-loop-first
invariant-loop-first l = record {
  ready : IsReady l.design;
  own_in : l.fields.own ≤ length l.design.table.subtypes;
  choosing_in : l.fields.choosing ≤ length l.design.table.subtypes;
  own : (d : Design) (k : Known) (ks : List Known) → Knows d l.fn.design (k ∷ ks)
      → in_front (fields_defined d false k l.rest) (fields_in (at l.design.table.subtypes l.fields.own)) ≡ in_front (fields_defined d false k l.elements) [];
  choosing : (d : Design) (k : Known) (ks : List Known) → Knows d l.fn.design (k ∷ ks)
      → in_front (fields_defined d true k l.rest) (fields_in (at l.design.table.subtypes l.fields.choosing)) ≡ in_front (fields_defined d true k l.elements) [];
  knows : (d : Design) (ks : List Known) → Knows d l.fn.design ks → Knows d l.design ks;
  extends : Extends l.fn.design.table.subtypes l.design.table.subtypes;
}

abbrev pub decreases-loop-first : goal.decreases-loop-first
decreases-loop-first l = tree_count l.rest
