use Rattle.std.proofs.Common.{◌≡◌, ◌++◌, drop}
use Rattle.vd_meaning.specs.Tables.{pairs}
use Rattle.vd_known_generics.proofs.copies.pairs.Given as goal

abbrev pub invariant-loop-at : goal.invariant-loop-at
invariant-loop-at l = l.found.items ++ pairs (drop l.at l.xs) (drop l.at l.ys) ≡ pairs l.xs l.ys
