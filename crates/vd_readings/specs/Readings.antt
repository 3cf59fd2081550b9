-- Overload resolution (IEEE 1076, 12.5): the interpretations of an expression, each of which chooses a declaration and a type at each
-- node so that all of them fit. Names are flat lists of pieces and aggregates have long lists of elements, so a state belongs to a place
-- in a list of siblings: it says what is wanted of the tree that stands there and of those behind it.
use Rattle.std.specs.Prelude.{ℕ, Bool, List, [], ◌∷◌, map, if◌then◌else◌}
use Rattle.std.specs.List.{flat_map}
use Rattle.vd_bytes.specs.declared.places.Place.{Place}
use Rattle.vd_forest.specs.Forest.{Forest, nothing, more}
use Rattle.vd_forms.specs.declared.form.Form.{Form}
use Rattle.vd_resolved.specs.declared.node.Resolved.{Resolved}
use Rattle.vd_states.specs.declared.states.State.{State}
use Rattle.vd_states.specs.declared.ways.Way.{Way}

-- A language: the ways to read a node in a state, by its form, its text and its parts, and the states in which a list may end. What the
-- parts turn out to be doesn't count.
pub record Rules : Type 0 where
  pub ways : State → Form → List ℕ → Forest Form → List Way
  pub ends : State → Bool

-- a node that is read in a way
abbrev pub resolved : Form → Way → Resolved
resolved form way = record { form = form; declaration = way.declaration; mark = way.mark; position = way.position }

-- a node with each of some forests as its parts and each of some others behind it
abbrev pub with_node : Resolved → List ℕ → Place → List (Forest Resolved) → List (Forest Resolved) → List (Forest Resolved)
with_node node text place inners rests = flat_map (λ inner. map (more node text place inner) rests) inners

module _ (rules : Rules) where
  -- the readings of a forest that stands in a state: every choice of a way for each node
  abbrev pub readings : Forest Form → State → List (Forest Resolved)
  readings nothing state = if rules.ends state then nothing ∷ [] else []
  readings (more form text place parts next) state =
      flat_map (λ way. with_node (resolved form way) text place (readings parts way.inside) (readings next way.after)) (rules.ways state form text parts)

  -- those in one state after another
  abbrev pub readings_in : Forest Form → List State → List (Forest Resolved)
  readings_in f states = flat_map (readings f) states
