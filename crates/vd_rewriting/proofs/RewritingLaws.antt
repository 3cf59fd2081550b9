-- Laws of passes. No name has a dash, so that a caller can name each in `#[tactic(auto, using(..))]`.
use Rattle.std.proofs.Common.{◌≡◌, ℕ, List, ◌∷◌, refl, ap, ◌∙◌, subst}
use Rattle.vd_forest.specs.Forest.{Forest, nothing, more}
use Rattle.vd_forest.specs.Store.{Holds}
use Rattle.vd_rewriting.specs.Folding.{Meaning, folded}
use Rattle.vd_rewriting.specs.Rewriting.{Pass, rewritten, same_pass, KeepsNodes, KeepsMeanings}

-- a pass whose nodes keep their meaning keeps that of each forest
pub keeps_meanings : {F G M : Type 0} (before : Meaning F M) (after : Meaning G M) (pass : Pass F G)
    → KeepsNodes before after pass → KeepsMeanings before after pass
keeps_meanings before after pass keeps nothing = refl
keeps_meanings before after pass keeps (more form text place parts next) =
    keeps form text place parts (rewritten pass parts) (rewritten pass next) (keeps_meanings before after pass keeps parts)
    ∙ ap (λ ms. before form text place (folded before parts) ∷ ms) (keeps_meanings before after pass keeps next)

module _ {F : Type 0} where
  -- a pass that leaves each node as it is leaves each forest as it is
  pub rewritten_same : (f : Forest F) → rewritten same_pass f ≡ f
  rewritten_same nothing = refl
  rewritten_same (more form text place parts next) =
      ap (λ a. more form text place a (rewritten same_pass next)) (rewritten_same parts) ∙ ap (more form text place parts) (rewritten_same next)

  pub holds_same : (fs : List (Forest F)) (number : ℕ) (f : Forest F) → Holds fs number (rewritten same_pass f) → Holds fs number f
  holds_same fs number f = subst (Holds fs number) (rewritten_same f)
