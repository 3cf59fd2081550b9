-- The trees that steps stand for, and where each tree ends among the steps.
use Rattle.std.specs.Prelude.{ℕ, zero, suc, ◌<◌, ◌≤◌, ◌≡◌, List, [], ◌∷◌, length, drop, slice_index_or}
use Rattle.vd_gram.specs.declared.steps.Step.{Step}
use Rattle.vd_gram.specs.declared.steps.Step.TheVariants.{Leaf, Node}
use Rattle.vd_gram.specs.Derivations.{Trees, nothing, leaf, node}

-- the first trees, as many as the number says
abbrev pub first_trees : ℕ → Trees → Trees
first_trees zero f = nothing
first_trees (suc n) nothing = nothing
first_trees (suc n) (leaf symbol place next) = leaf symbol place (first_trees n next)
first_trees (suc n) (node production parts next) = node production parts (first_trees n next)

-- the trees behind them
abbrev pub other_trees : ℕ → Trees → Trees
other_trees zero f = f
other_trees (suc n) nothing = nothing
other_trees (suc n) (leaf symbol place next) = other_trees n next
other_trees (suc n) (node production parts next) = other_trees n next

-- a node stands in front of its parts
abbrev pub trees_of : List Step → Trees
trees_of [] = nothing
trees_of (Leaf symbol place ∷ steps) = leaf symbol place (trees_of steps)
trees_of (Node production parts ∷ steps) = node production (first_trees parts (trees_of steps)) (other_trees parts (trees_of steps))

-- the trees from a step on
abbrev pub trees_from : List Step → ℕ → Trees
trees_from steps start = trees_of (drop start steps)

-- so many trees stand from one step to another
pub record IsSpan (steps : List Step) (start count end : ℕ) : Type 0 where
  pub forward : start ≤ end
  pub within : end ≤ length steps
  pub behind : trees_from steps end ≡ other_trees count (trees_from steps start)

-- the steps from `start` on have the place behind their tree, one in `ends` for each
pub record IsLinkedFrom (steps : List Step) (start : ℕ) (ends : List ℕ) : Type 0 where
  pub lengths : length ends ≡ length steps
  pub spans : (step : ℕ) → start ≤ step → step < length steps → IsSpan steps step 1 (slice_index_or ends step 0)

abbrev pub IsLinked : List Step → List ℕ → Type 0
IsLinked steps ends = IsLinkedFrom steps 0 ends
