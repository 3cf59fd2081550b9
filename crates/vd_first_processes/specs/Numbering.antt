-- The numbers that names stand for, where a name that comes again stands for what it stood for first.
use Rattle.std.specs.Prelude.{ℕ, List, slice_index_or}
use Rattle.vd_first_elaboration.specs.Processes.{number_of}
use Rattle.vd_first_processes.specs.declared.numbers.Numbers.{Numbers}

-- The number of a name. Each name stands in the table once, beside its number, and all others have the number that comes last.
abbrev pub number_in : Numbers → List ℕ → ℕ
number_in table name = slice_index_or table.firsts.items (number_of table.names name) table.count
