use Rattle.std.proofs.Common.{◌≡◌, ◌++◌, take}
use Rattle.vd_modes.specs.Checks.{warning_lines}
use Rattle.vd_modes.proofs.lines.add_warnings.Given as goal

abbrev pub invariant-loop-warning : goal.invariant-loop-warning
invariant-loop-warning l = l.text.items ≡ l.fn.text.items ++ warning_lines l.file (take l.warning-index l.warnings)
