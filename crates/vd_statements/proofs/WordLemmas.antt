-- A declaration for each name of a list, from the last name on. No name has a dash, so that a caller can name each in `#[tactic(auto, using(..))]`.
use Rattle.std.proofs.Common.{◌≡◌, ◌≤◌, ℕ, List, length, refl, sym, ap, ◌∙◌}
use Rattle.vd_bytes.specs.declared.places.Place.{Place}
use Rattle.vd_forest.specs.Forest.{Forest, more}
use Rattle.vd_forest.specs.Store.{at, Holds, Extends}
use Rattle.vd_forest.proofs.StoreLemmas.{extends_same, extends_trans, within_more, at_more, kept}
use Rattle.vd_resolved.specs.declared.node.Resolved.{Resolved}
use Rattle.vd_statements.specs.Words.{each_back, one_of}

pub each_step : (n : Resolved) (text : List ℕ) (place : Place) (count : ℕ) (parts own : Forest Resolved) (fs gs : List (Forest Resolved)) (k behind made new : ℕ) (want : Forest Resolved)
    (m : Resolved) (t : List ℕ) (p : Place) (ps : Forest Resolved)
    → at fs k ≡ more m t p ps (at fs behind) → Extends fs gs → behind ≤ length fs → own ≡ parts
    → Holds gs new (one_of n text place count own (at fs k) (at fs made))
    → each_back n text place count parts (at fs k) (at fs made) ≡ want
    → each_back n text place count parts (at gs behind) (at gs new) ≡ want
each_step n text place count parts own fs gs k behind made new want m t p ps opened grown within same held before =
    ap (λ f. each_back n text place count parts f (at gs new)) (grown.keeps behind within)
    ∙ ap (each_back n text place count parts (at fs behind)) (held.is ∙ ap (λ q. one_of n text place count q (at fs k) (at fs made)) same ∙ ap (λ f. one_of n text place count parts f (at fs made)) opened)
    ∙ ap (λ f. each_back n text place count parts f (at fs made)) (sym opened)
    ∙ before

pub ruleset naming = (extends_same, extends_trans, within_more, at_more, kept, each_step)
