use Rattle.std.proofs.Common.{◌≡◌, take}
use Rattle.vd_meaning.specs.Tables.{pairs}
use Rattle.vd_static_rules.proofs.copies.side_by_side.Given as goal

abbrev pub invariant-loop-at : goal.invariant-loop-at
invariant-loop-at l = l.made.items ≡ take l.at (pairs l.generics l.copies)
