-- Trees that are made from their parts on. No name has a dash, so that a caller can name each in `#[tactic(auto, using(..))]`.
use Rattle.std.proofs.Common.{◌≡◌, ◌≤◌, ℕ, List, length, ap, ◌∙◌}
use Rattle.vd_bytes.specs.declared.places.Place.{Place}
use Rattle.vd_forest.specs.Forest.{Forest, more, nothing}
use Rattle.vd_forest.specs.Store.{at, Holds, Extends}
use Rattle.vd_forest.proofs.StoreLemmas.{within_more}

module _ {G : Type 0} where
  -- one tree, whose parts were made before it
  pub made_with_parts : (fs hs gs : List (Forest G)) (form : G) (text : List ℕ) (place : Place) (number parts next : ℕ) (f : Forest G)
      → Extends fs hs → next ≤ length fs → Holds hs parts f → Holds gs number (more form text place (at hs parts) (at hs next))
      → Holds gs number (more form text place f (at fs next))
  made_with_parts fs hs gs form text place number parts next f grown within held made = record {
    within = made.within;
    is = made.is ∙ ap (λ g. more form text place g (at hs next)) held.is ∙ ap (more form text place f) (grown.keeps next within);
  }

  -- and what stands behind its first part before that
  pub made_call : (fs hs ks gs : List (Forest G)) (form inner : G) (text name : List ℕ) (place : Place) (number brackets parts next : ℕ) (f : Forest G)
      → Extends fs hs → Extends hs ks → next ≤ length fs → Holds hs brackets f → Holds ks parts (more inner name place nothing (at hs brackets))
      → Holds gs number (more form text place (at ks parts) (at ks next))
      → Holds gs number (more form text place (more inner name place nothing f) (at fs next))
  made_call fs hs ks gs form inner text name place number brackets parts next f first second within held word made = record {
    within = made.within;
    is =
        made.is ∙ ap (λ g. more form text place g (at ks next)) (word.is ∙ ap (more inner name place nothing) held.is)
        ∙ ap (more form text place (more inner name place nothing f)) (second.keeps next (within_more fs hs next first within) ∙ first.keeps next within);
  }
