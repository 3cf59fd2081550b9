use Rattle.std.proofs.Common.{take}
use Rattle.std.specs.List.{flat_map}
use Rattle.vd_forest.specs.Store.{Extends}
use Rattle.vd_readings.specs.Found.{IsFound}
use Rattle.vd_overloads.specs.Interpretations.{implied_by}
use Rattle.vd_overloads.proofs.resolving.imply_any.Given as goal

abbrev pub invariant-loop-operator : goal.invariant-loop-operator
invariant-loop-operator g l = record {
  extends : Extends l.fn.out l.out;
  found : IsFound l.out l.found (flat_map (implied_by (g.S.Language.rules l.setting) (g.S.Setting.scene l.setting) l.tree) (take l.operator-index l.operator-items));
}
