-- A table with a declaration more.
use Rattle.std.specs.Prelude.{ℕ, suc, Bool, Some, None, if◌then◌else◌}
use Rattle.std.specs.Option.{option_or}
use Rattle.vd_region_tables.specs.declared.table.Table.{Table}

abbrev pub grown : Table → ℕ → Bool → Table
grown table id overloadable = record {
  newest = suc id;
  first = option_or table.first (Some id);
  alone = option_or table.alone (if overloadable then None else Some id);
}
