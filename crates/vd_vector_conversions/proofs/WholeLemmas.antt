-- The whole pass. No name has a dash, so that a caller can name each in `#[tactic(auto, using(..))]`.
use Rattle.std.proofs.Common.{◌≡◌, ℕ, List, ap, ◌∙◌}
use Rattle.vd_forest.specs.Forest.{Forest}
use Rattle.vd_forest.specs.Store.{at, Holds}
use Rattle.vd_resolved.specs.Trees.{ResolvedTree}
use Rattle.vd_resolved.specs.declared.node.Resolved.{Resolved}
use Rattle.vd_vector_conversions.specs.declared.facts.Facts.{Facts}
use Rattle.vd_vector_conversions.specs.Passes.{Apart, IsConverted, with_conversions}

pub apart_made : (tree made : ResolvedTree) (k : Facts) (out : List (Forest Resolved)) (number : ℕ)
    → ((units : Forest Resolved) × Holds out number (with_conversions k units))
    → made ≡ record { units = at out number; declarations = k.declared.items } → IsConverted tree made
apart_made tree made k out number holds is =
    Apart k holds.0 (is ∙ ap (λ f. record { units = f; declarations = k.declared.items }) holds.1.is)
