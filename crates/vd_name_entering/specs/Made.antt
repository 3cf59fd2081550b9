-- What a tree comes to, in words of contracts.
use Rattle.std.specs.Prelude.{◌≡◌, List}
use Rattle.vd_forest.specs.Forest.{Forest}
use Rattle.vd_forest.specs.Store.{Holds}
use Rattle.vd_resolved.specs.declared.node.Resolved.{Resolved}
use Rattle.vd_name_rows.specs.Designs.{Design, Outcome}
use Rattle.vd_name_entering.specs.declared.made.Made.{Made}

-- its trees stand at their number, its refusal is that of the outcome, and so is the design behind it. What is known at the place behind it is
-- said by a clause of its own
pub record IsMade (store : List (Forest Resolved)) (d : Design) (made : Made) (want : Outcome) : Type 0 where
  pub holds : Holds store made.tree want.tree
  pub design : d ≡ want.design
  pub first : made.first ≡ want.first
