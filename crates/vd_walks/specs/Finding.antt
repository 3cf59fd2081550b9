-- The first node of a forest, in the order of its text, for which there is an answer.
use Rattle.std.specs.Prelude.{ℕ, List, Option, Some, None}
use Rattle.vd_bytes.specs.declared.places.Place.{Place}
use Rattle.vd_forest.specs.Forest.{Forest, nothing, more}

-- The answer of a node, given its state, form, text, place and parts; the state of its parts; and that of the tree after it.
pub record Finder (F S A : Type 0) : Type 0 where
  pub answer : S → F → List ℕ → Place → Forest F → Option A
  pub down : S → F → List ℕ → Place → Forest F → S
  pub along : S → F → List ℕ → Place → Forest F → S

-- the one answer, or the other where there is none
abbrev pub or_else : {A : Type 0} → Option A → Option A → Option A
or_else None other = other
or_else (Some a) other = Some a

-- The first answer of a forest whose first tree has the state: a node's own, else that of its parts, else that of the trees after it.
abbrev pub first_found : {F S A : Type 0} → Finder F S A → S → Forest F → Option A
first_found finder state nothing = None
first_found finder state (more form text place parts next) =
    or_else (finder.answer state form text place parts)
    (or_else (first_found finder (finder.down state form text place parts) parts)
    (first_found finder (finder.along state form text place parts) next))
