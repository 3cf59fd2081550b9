use Rattle.std.proofs.Common.{◌≡◌, ◌++◌, drop, map}
use Rattle.vd_weighing.specs.Copies.{copied}
use Rattle.vd_weighing.specs.Tables.{copies}
use Rattle.vd_weighing.proofs.table.Table.copies.Given as goal

abbrev pub invariant-loop-at : goal.invariant-loop-at
invariant-loop-at l = map copied l.made.items ++ copies (drop l.at l.olds) (drop l.at l.news) l.self ≡ copies l.olds l.news l.self
