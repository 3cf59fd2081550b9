-- What a reading is, without a list: the source again, with a way of its state at each node, whose parts and whose trees behind it are
-- typed in the states that the way says.
use Rattle.std.specs.Prelude.{◌≡◌, ℕ, List, IsTrue}
use Rattle.std.specs.List.{Contains}
use Rattle.vd_forest.specs.Forest.{Forest, nothing, more}
use Rattle.vd_forms.specs.declared.form.Form.{Form}
use Rattle.vd_resolved.specs.Trees.{syntax_of}
use Rattle.vd_resolved.specs.declared.node.Resolved.{Resolved}
use Rattle.vd_states.specs.declared.states.State.{State}
use Rattle.vd_states.specs.declared.ways.Way.{Way}
use Rattle.vd_readings.specs.Readings.{Rules, resolved, readings}

module _ (rules : Rules) where
  abbrev pub IsTyped : Forest Resolved → State → Type 0
  IsTyped nothing state = IsTrue (rules.ends state)
  IsTyped (more node text place parts next) state =
      (way : Way) × Contains (rules.ways state node.form text (syntax_of parts)) way × (node ≡ resolved node.form way)
      × IsTyped parts way.inside × IsTyped next way.after

  -- a reading of a forest in a state
  pub record IsReading (f : Forest Form) (state : State) (reading : Forest Resolved) : Type 0 where
    pub source : syntax_of reading ≡ f
    pub typed : IsTyped reading state

-- ---- the laws

-- the readings of a forest are the typed trees over it, and no others
abbrev pub ReadingsAreTyped : Type 0
ReadingsAreTyped = (rules : Rules) (f : Forest Form) (state : State) (reading : Forest Resolved)
    → Contains (readings rules f state) reading → IsReading rules f state reading

abbrev pub TypedAreReadings : Type 0
TypedAreReadings = (rules : Rules) (f : Forest Form) (state : State) (reading : Forest Resolved)
    → IsReading rules f state reading → Contains (readings rules f state) reading

-- Two languages agree on a forest in a state: they have the same ways at each node in each state that a way of theirs leads to.
abbrev pub Agree : Rules → Rules → Forest Form → State → Type 0
Agree a b nothing state = a.ends state ≡ b.ends state
Agree a b (more form text place parts next) state =
    (a.ways state form text parts ≡ b.ways state form text parts)
    × ((way : Way) → Contains (a.ways state form text parts) way → Agree a b parts way.inside × Agree a b next way.after)

abbrev pub AgreeingReadAlike : Type 0
AgreeingReadAlike = (a b : Rules) (f : Forest Form) (state : State) → Agree a b f state → readings a f state ≡ readings b f state

-- each way of the one is a way of the other
pub record IsWithin (a b : Rules) : Type 0 where
  pub ways : (state : State) (form : Form) (text : List ℕ) (parts : Forest Form) (way : Way)
      → Contains (a.ways state form text parts) way → Contains (b.ways state form text parts) way
  pub ends : (state : State) → IsTrue (a.ends state) → IsTrue (b.ends state)

abbrev pub WiderReadsMore : Type 0
WiderReadsMore = (a b : Rules) (f : Forest Form) (state : State) (reading : Forest Resolved)
    → IsWithin a b → Contains (readings a f state) reading → Contains (readings b f state) reading
