use Rattle.std.proofs.Common.{◌≡◌, ◌++◌, drop}
use Rattle.vd_trees.specs.TraceText.{value_lines}
use Rattle.vd_trace_text.specs.Types.{types_behind}
use Rattle.vd_trace_text.proofs.values.add_values.Given as goal

-- what was written, and what is left to write
abbrev pub invariant-loop-index : goal.invariant-loop-index
invariant-loop-index l =
    l.text.items ++ value_lines (drop l.index l.paths) (types_behind (drop l.index l.types)) (drop l.index l.earlier) (drop l.index l.values)
    ≡ l.fn.text.items ++ value_lines l.paths (types_behind l.types) l.earlier l.values
