-- A walk that knows nothing, and whose trees become any trees. No name has a dash, so that a caller can name each in `#[tactic(auto, using(..))]`.
use Rattle.std.proofs.Common.{ℕ, List, []}
use Rattle.vd_forest.specs.Forest.{Forest}
use Rattle.vd_forest.specs.Store.{Extends}
use Rattle.vd_forest.proofs.StoreLemmas.{extends_same}
use Rattle.vd_resolved.specs.declared.node.Resolved.{Resolved}
use Rattle.vd_tours.specs.Tours.{IsAtPlace, IsLeft}
use Rattle.vd_walks.specs.Positions.{Position, Tree}

pub at_start : (store : List (Forest Resolved)) → IsAtPlace {F = Resolved} (λ before ps. Unit {0}) store
at_start store = record { before = store; grown = extends_same store; here = []; round = []; known = tt }

pub left_anyhow : (store : List (Forest Resolved)) (p : Position Resolved) (ps : List (Position Resolved)) (x : Tree Resolved) (inner : Forest Resolved) (trees : ℕ)
    → IsLeft {F = Resolved} (λ before ps. Unit {0}) (λ p x f g. Unit {0}) store p ps x inner trees
left_anyhow store p ps x inner trees = record { is = tt; known = tt }
