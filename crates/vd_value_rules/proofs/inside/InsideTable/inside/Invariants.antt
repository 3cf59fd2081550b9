use Rattle.std.proofs.Common.{◌+◌, ◌-◌, vec_len}
use Rattle.vd_forest.specs.Store.{Extends}
use Rattle.vd_value_rules.specs.Inside.{AreInside}
use Rattle.vd_value_rules.proofs.inside.InsideTable.inside.Given as goal

abbrev pub invariant-loop-store : goal.invariant-loop-store
invariant-loop-store l = record {
  known : AreInside l.self.entries.items l.store;
  extends : Extends l.initial.store l.store;
}

abbrev pub decreases-loop-store : goal.decreases-loop-store
decreases-loop-store l = l.subtype + 1 - vec_len l.self.entries
