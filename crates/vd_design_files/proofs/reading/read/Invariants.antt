use Rattle.std.proofs.Common.{take}
use Rattle.vd_design_files.specs.Files.{IsRead}
use Rattle.vd_design_files.specs.InOrder.{HaveEach}
use Rattle.vd_design_files.proofs.reading.read.Given as goal

abbrev pub invariant-loop-tokens : goal.invariant-loop-tokens
invariant-loop-tokens l = HaveEach IsRead (take l.tokens-index l.lists) l.designs.items
