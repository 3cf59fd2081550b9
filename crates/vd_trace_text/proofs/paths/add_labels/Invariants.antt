use Rattle.std.proofs.Common.{◌≡◌, ◌++◌, take}
use Rattle.std.specs.List.{flat_map}
use Rattle.vd_trace_text.specs.Names.{label_with_dot}
use Rattle.vd_trace_text.proofs.paths.add_labels.Given as goal

abbrev pub invariant-loop-label : goal.invariant-loop-label
invariant-loop-label l = l.text.items ≡ l.fn.text.items ++ flat_map label_with_dot (take l.label-index l.labels)
