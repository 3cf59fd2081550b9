use Rattle.std.proofs.Common.{◌≡◌, ◌++◌, take}
use Rattle.std.specs.List.{flat_map}
use Rattle.vd_trees.specs.TraceText.{escaped}
use Rattle.vd_trace_text.proofs.reports.add_escaped.Given as goal

abbrev pub invariant-loop-byte : goal.invariant-loop-byte
invariant-loop-byte l = l.text.items ≡ l.fn.text.items ++ flat_map escaped (take l.byte-index l.bytes)
