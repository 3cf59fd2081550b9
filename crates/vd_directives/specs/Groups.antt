-- Which lines are selected, by the groups round each of them. (IEEE 1076-2019, conditional analysis tool directives.)
-- What stands before a line is given as a list, the nearest line first.
use Rattle.std.specs.Prelude.{ℕ, zero, suc, Bool, true, false, not, ◌&&◌, List, [], ◌∷◌, Option, Some, None, if◌then◌else◌}
use Rattle.vd_directives.specs.declared.kinds.Kind.{Kind}
use Rattle.vd_directives.specs.declared.kinds.Kind.TheVariants.{If, Elsif, Else, End, Error, Broken, Unknown}

-- ---- the branches of the group round a line, where so many groups that were closed in between are passed over

-- In each group round the line the branch in which it stands is the first whose condition is true. With `past` the branches that are
-- met first have to be false instead: they stand before that branch.
abbrev pub stands_in : Bool → ℕ → List Kind → Bool
stands_in past closed [] = true
stands_in past closed (End ∷ before) = stands_in past (suc closed) before
stands_in past (suc closed) (If condition ∷ before) = stands_in past closed before
stands_in past (suc closed) (line ∷ before) = stands_in past (suc closed) before
stands_in false zero (If condition ∷ before) = condition && stands_in false zero before
stands_in true zero (If condition ∷ before) = not condition && stands_in false zero before
stands_in false zero (Elsif condition ∷ before) = condition && stands_in true zero before
stands_in true zero (Elsif condition ∷ before) = not condition && stands_in true zero before
stands_in false zero (Else ∷ before) = stands_in true zero before
stands_in true zero (Else ∷ before) = false
stands_in past zero (line ∷ before) = stands_in past zero before

-- a line behind these is selected
abbrev pub is_selected : List Kind → Bool
is_selected before = stands_in false zero before

-- the last branch before a line in the group round it, if there is a group: whether it is an `else`
abbrev pub last_branch : ℕ → List Kind → Option Bool
last_branch closed [] = None
last_branch closed (End ∷ before) = last_branch (suc closed) before
last_branch (suc closed) (If condition ∷ before) = last_branch closed before
last_branch (suc closed) (line ∷ before) = last_branch (suc closed) before
last_branch zero (If condition ∷ before) = Some false
last_branch zero (Elsif condition ∷ before) = Some false
last_branch zero (Else ∷ before) = Some true
last_branch zero (line ∷ before) = last_branch zero before

-- an `if` before a line has no end yet
abbrev pub has_group : ℕ → List Kind → Bool
has_group closed [] = false
has_group closed (End ∷ before) = has_group (suc closed) before
has_group (suc closed) (If condition ∷ before) = has_group closed before
has_group zero (If condition ∷ before) = true
has_group closed (line ∷ before) = has_group closed before

abbrev pub is_open : List Kind → Bool
is_open before = has_group zero before

-- a branch may come there: there is a group, and its last branch is no `else`
abbrev pub may_branch : Option Bool → Bool
may_branch None = false
may_branch (Some is_else) = not is_else

-- ---- the rule that a line breaks, or 0

abbrev pub own_rule : List Kind → Kind → ℕ
own_rule before Broken = 111
own_rule before Unknown = if is_selected before then 111 else 0
own_rule before (Elsif condition) = if may_branch (last_branch zero before) then 0 else 112
own_rule before Else = if may_branch (last_branch zero before) then 0 else 112
own_rule before End = if is_open before then 0 else 112
own_rule before Error = if is_selected before then 113 else 0
own_rule before line = 0
