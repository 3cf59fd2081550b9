-- Trees that are turned twice.
use Rattle.std.proofs.Common.{◌≡◌, ℕ, List, ◌≤◌, length, ap, sym, subst, ◌∙◌}
use Rattle.vd_forest.specs.Forest.{Forest, nothing, joined, turned}
use Rattle.vd_forest.specs.Store.{at, Holds, Extends}
use Rattle.vd_forest.proofs.ForestLemmas.{turned_turned, joined_nothing}

module _ {F : Type 0} (old middle new : List (Forest F)) where
  pub holds_joined : (first rest number made : ℕ) → rest ≤ length old → Extends old middle
      → Holds middle number (turned (at old first) nothing) → Holds new made (turned (at middle number) (at middle rest))
      → Holds new made (joined (at old first) (at old rest))
  holds_joined first rest number made within grown turned_once turned_twice = record {
    within = turned_twice.within;
    is =
        turned_twice.is
        ∙ ap (λ f. turned f (at middle rest)) turned_once.is
        ∙ ap (turned (turned (at old first) nothing)) (grown.keeps rest within)
        ∙ turned_turned (at old first) nothing (at old rest);
  }
