-- How static all bounds of subtypes are, by the numbers of their trees.
use Rattle.std.specs.Prelude.{◌≡◌, ◌+◌, ◌<◌, ◌≤◌, ℕ, List, false, length, slice_index_or}
use Rattle.vd_environments.specs.Environments.{all_bounds, bounds_of_fields}
use Rattle.vd_forest.specs.Forest.{Forest}
use Rattle.vd_forest.specs.Store.{at}
use Rattle.vd_value_rules.specs.declared.forms.IndicatedForm.{IndicatedForm}
use Rattle.vd_value_rules.specs.declared.bounds.TreeBounds.{TreeBounds}
use Rattle.vd_value_rules.specs.Indicated.{fields_in, indicated_in, static_of}
use Rattle.vd_meaning.specs.Declarations.{makes_of}

-- of the first tree as a subtype, and of all as the fields of a record
pub record IsBoundsOf (x : TreeBounds) (f : Forest IndicatedForm) : Type 0 where
  pub first : static_of x.first ≡ all_bounds (indicated_in f).make
  pub all : static_of x.all ≡ bounds_of_fields (makes_of (fields_in f))

-- behind the end of a table
abbrev pub nothing_known : TreeBounds
nothing_known = record {
  first = record { is_local = false; is_global = false };
  all = record { is_local = false; is_global = false };
}

-- a table has the bounds of the first numbers of a store
pub record IsTableOf (table : List TreeBounds) (forests : List (Forest IndicatedForm)) : Type 0 where
  pub within : length table ≤ length forests + 1
  pub are : (number : ℕ) → number < length table → IsBoundsOf (slice_index_or table number nothing_known) (at forests number)
