-- The least refusal of a forest: the one at the earliest place, and there the one of the least rule.
use Rattle.std.specs.Prelude.{ℕ, Bool, nat_lt, ◌==◌, ◌&&◌, ◌||◌, List, [], ◌∷◌, ◌++◌, Option, Some, None, if◌then◌else◌}
use Rattle.vd_bytes.specs.declared.places.Place.{Place}
use Rattle.vd_bytes.specs.declared.answers.Refused.{Refused}
use Rattle.vd_forest.specs.Forest.{Forest, nothing, more}

-- ---- of two refusals

-- the one place is before the other, by file, then by line, then by column
abbrev pub is_before : Place → Place → Bool
is_before p q = nat_lt p.file q.file || (p.file == q.file && (nat_lt p.line q.line || (p.line == q.line && nat_lt p.column q.column)))

abbrev pub is_same_place : Place → Place → Bool
is_same_place p q = p.file == q.file && (p.line == q.line && p.column == q.column)

-- the one refusal is at an earlier place, or at the same place with a lesser rule
abbrev pub is_less : Refused → Refused → Bool
is_less a b = is_before a.place b.place || (is_same_place a.place b.place && nat_lt a.rule b.rule)

abbrev pub lesser_of : Refused → Refused → Refused
lesser_of a b = if is_less b a then b else a

-- the lesser one, where there are two
abbrev pub lesser : Option Refused → Option Refused → Option Refused
lesser None b = b
lesser (Some a) None = Some a
lesser (Some a) (Some b) = Some (lesser_of a b)

abbrev pub least_of : List Refused → Option Refused
least_of [] = None
least_of (r ∷ rs) = lesser (Some r) (least_of rs)

-- those of some refusals that there are
abbrev pub refusals : List (Option Refused) → List Refused
refusals [] = []
refusals (None ∷ os) = refusals os
refusals (Some r ∷ os) = r ∷ refusals os

-- ---- of a forest

-- The rules that a node breaks itself, each with its place, given the node's state, form, text, place and parts; the state of its
-- parts; and that of the tree after it.
pub record Judge (F S : Type 0) : Type 0 where
  pub broken : S → F → List ℕ → Place → Forest F → List Refused
  pub down : S → F → List ℕ → Place → Forest F → S
  pub along : S → F → List ℕ → Place → Forest F → S

-- the least refusal of a forest whose first tree has the state
abbrev pub least : {F S : Type 0} → Judge F S → S → Forest F → Option Refused
least judge state nothing = None
least judge state (more form text place parts next) =
    lesser (least_of (judge.broken state form text place parts))
    (lesser (least judge (judge.down state form text place parts) parts)
    (least judge (judge.along state form text place parts) next))

-- all refusals of a forest, node by node in the order of the text
abbrev pub all_broken : {F S : Type 0} → Judge F S → S → Forest F → List Refused
all_broken judge state nothing = []
all_broken judge state (more form text place parts next) =
    judge.broken state form text place parts ++
    (all_broken judge (judge.down state form text place parts) parts ++
    all_broken judge (judge.along state form text place parts) next)
