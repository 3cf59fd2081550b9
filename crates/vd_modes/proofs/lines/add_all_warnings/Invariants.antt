use Rattle.std.proofs.Common.{◌≡◌, ◌++◌, take}
use Rattle.vd_words.specs.Words.{texts_of}
use Rattle.vd_modes.specs.Checks.{warnings_from}
use Rattle.vd_modes.proofs.lines.add_all_warnings.Given as goal

abbrev pub invariant-loop-i : goal.invariant-loop-i
invariant-loop-i l = l.text.items ≡ l.fn.text.items ++ warnings_from (texts_of l.names) 0 (take l.i l.warnings)
