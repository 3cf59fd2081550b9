use Rattle.std.proofs.Common.{◌≡◌, ◌++◌, take}
use Rattle.vd_known_units.proofs.copies.add_numbers.Given as goal

abbrev pub invariant-loop-id : goal.invariant-loop-id
invariant-loop-id l = l.numbers.items ≡ l.fn.numbers.items ++ take l.id-index l.ids
