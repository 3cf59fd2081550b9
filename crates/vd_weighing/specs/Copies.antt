-- What a new declaration gets, as the entry of a table.
use Rattle.std.specs.Prelude.{ℕ}
use Rattle.vd_weighing.specs.declared.table.Copied.{Copied}

abbrev pub copied : Copied → ℕ × ℕ
copied c = (c.id, c.number)
