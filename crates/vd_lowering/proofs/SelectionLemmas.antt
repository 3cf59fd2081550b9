-- The alternatives of a selected assignment, from the last on. No name has a dash, so that a caller can name each in `#[tactic(auto, using(..))]`.
use Rattle.std.proofs.Common.{◌≡◌, ◌≤◌, ℕ, List, length, refl, sym, ap, ◌∙◌}
use Rattle.vd_bytes.specs.declared.places.Place.{Place}
use Rattle.vd_forest.specs.Forest.{Forest, nothing, more, turned}
use Rattle.vd_forest.specs.Store.{at, Holds, Extends}
use Rattle.vd_forest.proofs.StoreLemmas.{extends_same, extends_trans, within_more, at_more, kept}
use Rattle.vd_notes.specs.declared.noted.Noted.{Noted}
use Rattle.vd_lowering.specs.Selections.{alternative, alternatives}
use Rattle.vd_lowering.specs.declared.assignments.Taking.{Taking}

module _ (to : Taking) (statement : Noted) (place : Place) (parts : Forest Noted) where
  pub alternatives_step : (own : Forest Noted) (fs gs : List (Forest Noted)) (left rest inner made new : ℕ) (want : Forest Noted)
      (n : Noted) (text : List ℕ) (link : Place)
      → at fs left ≡ more n text link (at fs inner) (at fs rest) → Extends fs gs → rest ≤ length fs → own ≡ parts
      → Holds gs new (alternative to statement place own link (at fs inner) (at fs made))
      → turned (at fs made) (alternatives to statement place parts (at fs left)) ≡ want
      → turned (at gs new) (alternatives to statement place parts (at gs rest)) ≡ want
  alternatives_step own fs gs left rest inner made new want n text link opened grown within same held before =
      ap (λ f. turned f (alternatives to statement place parts (at gs rest)))
      (held.is ∙ ap (λ q. alternative to statement place q link (at fs inner) (at fs made)) same)
      ∙ ap (λ f. turned (at fs made) (alternative to statement place parts link (at fs inner) (alternatives to statement place parts f)))
      (grown.keeps rest within)
      ∙ ap (λ f. turned (at fs made) (alternatives to statement place parts f)) (sym opened)
      ∙ before

pub ruleset selecting = (extends_same, extends_trans, within_more, at_more, kept, alternatives_step)
