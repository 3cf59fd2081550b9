use Rattle.std.proofs.Common.{◌≡◌}
use Rattle.vd_value_rules.specs.Indicated.{indicated_in}
use Rattle.vd_value_rules.specs.Found.{found}
use Rattle.vd_static_values.specs.Levels.{inside_converted, lists_in}
use Rattle.vd_static_values.proofs.LevelLemmas.{alone, depth, level_of}
use Rattle.vd_static_values.proofs.converting.opened.Given as goal

abbrev pub invariant-loop-of : goal.invariant-loop-of
invariant-loop-of l =
    found (alone (inside_converted (indicated_in l.subtype).subtype l.fn.whole)) ≡ found (level_of (lists_in l.outer.items) (indicated_in l.of).subtype l.inner.items)

abbrev pub decreases-loop-of : goal.decreases-loop-of
decreases-loop-of l = depth (indicated_in l.of).subtype
