use Rattle.std.proofs.Common.{◌≡◌, ◌++◌, drop}
use Rattle.vd_regions.proofs.finding.ids_of.Given as goal

abbrev pub invariant-loop-number : goal.invariant-loop-number
invariant-loop-number l = l.ids.items ++ drop l.number-index l.numbers ≡ l.fn.numbers
