use Rattle.std.proofs.Common.{◌≡◌, ◌++◌, take}
use Rattle.vd_meaning.specs.Tables.{pairs}
use Rattle.vd_known_units.proofs.copies.add_pairs.Given as goal

abbrev pub invariant-loop-at : goal.invariant-loop-at
invariant-loop-at l = l.made.items ≡ l.fn.made.items ++ take l.at (pairs l.from l.to)
