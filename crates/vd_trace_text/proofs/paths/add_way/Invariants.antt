use Rattle.std.proofs.Common.{◌≡◌, ◌++◌, take}
use Rattle.std.specs.List.{flat_map}
use Rattle.vd_trace_text.specs.Names.{label_with_dot, labels_of}
use Rattle.vd_trace_text.proofs.paths.add_way.Given as goal

abbrev pub invariant-loop-level : goal.invariant-loop-level
invariant-loop-level l = l.text.items ≡ l.initial.text.items ++ flat_map label_with_dot (labels_of (take l.level-index l.levels))
