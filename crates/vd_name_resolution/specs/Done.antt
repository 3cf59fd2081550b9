-- What a step that makes a tree by itself comes to, in words of contracts.
use Rattle.std.specs.Prelude.{◌≡◌, List}
use Rattle.vd_forest.specs.Forest.{Forest}
use Rattle.vd_resolved.specs.declared.node.Resolved.{Resolved}
use Rattle.vd_name_entering.specs.declared.made.Made.{Made}
use Rattle.vd_name_entering.specs.Made.{IsMade}
use Rattle.vd_name_rows.specs.Designs.{At, Design, Outcome}
use Rattle.vd_naming.specs.Naming.{Entered}
use Rattle.vd_walks.specs.Walking.{Done, Inside}

-- trees, the design and the first refusal, and the place behind them
pub record IsStepped (store : List (Forest Resolved)) (d : Design) (at : At) (made : Made) (want : Outcome) : Type 0 where
  pub made_is : IsMade store d made want
  pub at_is : at ≡ want.at

-- the step goes on with these
abbrev pub IsDone : List (Forest Resolved) → Design → At → Made → Entered → Type 0
IsDone store d at made (Done o) = IsStepped store d at made o
IsDone store d at made (Inside inside d' kept) = ⊥
