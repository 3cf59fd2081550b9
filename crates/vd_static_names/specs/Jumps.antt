-- Ways on in lists of trees.
use Rattle.std.specs.Prelude.{◌≡◌, ◌+◌, ◌<◌, ◌≤◌, List, length, slice_index_or, ℕ}
use Rattle.vd_forest.specs.Forest.{Forest, more, nothing, skipped}
use Rattle.vd_forest.specs.Store.{at}
use Rattle.vd_value_rules.specs.declared.forms.IndicatedForm.{IndicatedForm}
use Rattle.vd_value_rules.specs.declared.forms.IndicatedForm.TheVariants as form
use Rattle.vd_static_names.specs.declared.jumps.Jump.{Jump}

-- a jump leads from the trees with a number over so many of them
pub record IsJump (store : List (Forest IndicatedForm)) (number : ℕ) (jump : Jump) : Type 0 where
  pub older : jump.to ≤ number
  pub is : at store jump.to ≡ skipped jump.over (at store number)

abbrev pub no_jump : Jump
no_jump = record { over = 0; to = 0 }

-- a table has jumps from the first numbers of a store
pub record AreJumps (table : List Jump) (store : List (Forest IndicatedForm)) : Type 0 where
  pub within : length table ≤ length store + 1
  pub are : (number : ℕ) → number < length table → IsJump store number (slice_index_or table number no_jump)

-- the trees of a record's fields
abbrev pub field_trees : Forest IndicatedForm → Forest IndicatedForm
field_trees (more form.Record text place parts next) = parts
field_trees _ = nothing
