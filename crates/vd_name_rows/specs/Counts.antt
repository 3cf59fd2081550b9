-- What is counted of the declarations so far: all types, and what stands in each region.
use Rattle.std.specs.Prelude.{◌≡◌, ◌≤◌, ℕ, List, [], take, length, slice_index_or}
use Rattle.vd_regions.specs.Scopes.{Scopes}
use Rattle.vd_visible.specs.TypeLists.{types_below}
use Rattle.vd_name_rows.specs.Members.{numbers_in}
use Rattle.vd_name_rows.specs.declared.counts.Counts.{Counts}

-- the lists by regions of the first ones
abbrev pub AreMembers : Scopes → ℕ → List (List ℕ) → Type 0
AreMembers s counted members = (region : ℕ) → slice_index_or members region [] ≡ numbers_in region 0 (take counted s.entered)

-- the first ones
pub record AreCounted (s : Scopes) (c : Counts) : Type 0 where
  pub within : c.counted ≤ length s.entered
  pub types_are : c.types.items ≡ types_below s c.counted
  pub members_are : AreMembers s c.counted c.members
