use Rattle.std.proofs.Common.{◌≡◌}
use Rattle.vd_design_files.specs.Files.{warnings_of}
use Rattle.vd_design_files.proofs.lexing.warnings_of.Given as goal

abbrev pub invariant-loop-text : goal.invariant-loop-text
invariant-loop-text l = l.warnings.items ≡ warnings_of l.yielded
