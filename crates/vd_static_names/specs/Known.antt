-- What is read where known names are made.
use Rattle.std.specs.Prelude.{◌≤◌, List, None, Option, Some, if◌then◌else◌, length, ℕ}
use Rattle.vd_composites.specs.Composites.{Value}
use Rattle.vd_forest.specs.Forest.{Forest}
use Rattle.vd_value_rules.specs.declared.forms.IndicatedForm.{IndicatedForm}
use Rattle.vd_static_values.specs.Entries.{entry_at}
use Rattle.vd_static_values.specs.Names.{number_in}
use Rattle.vd_static_values.specs.declared.entries.Entry.{Entry}
use Rattle.vd_static_values.specs.declared.entries.Ground.{Ground}
use Rattle.vd_static_values.specs.declared.names.KnownName.{KnownName}
use Rattle.vd_values.specs.declared.scalar.Scalar.{Scalar}

-- the subtype of each declaration is in the store, and that of a name is
abbrev pub HasSubtypes : Ground → Type 0
HasSubtypes g = (n : ℕ) → (entry_at g.entries.now n).subtype ≤ length g.subtypes.now

abbrev pub IsWithin : List (Forest IndicatedForm) → KnownName → Type 0
IsWithin subtypes x = number_in x.subtype ≤ length subtypes

-- the value of a constant, where it is locally static
abbrev pub early_value : Entry → Option (Value Scalar)
early_value x = if x.known.is_local then Some x.value else None
