-- Laws of interpretations.
use Rattle.std.specs.Prelude.{◌≡◌, ◌⊎◌, ℕ}
use Rattle.std.specs.List.{Contains}
use Rattle.vd_forest.specs.Forest.{Forest}
use Rattle.vd_forms.specs.declared.form.Form.{Form}
use Rattle.vd_resolved.specs.declared.node.Resolved.{Resolved}
use Rattle.vd_states.specs.declared.states.State.{State}
use Rattle.vd_states.specs.declared.states.State.TheVariants as state
use Rattle.vd_readings.specs.Readings.{Rules}
use Rattle.vd_readings.specs.Typed.{IsReading, Agree}
use Rattle.vd_overloads.specs.Interpretations.{Scene, states_of, first_place, under_operator, interpretations}
use Rattle.vd_overloads.specs.declared.wanted.Wanted.{Wanted}

-- a reading in a state that is wanted
pub record IsWanted (rules : Rules) (s : Scene) (w : Wanted) (tree : Forest Form) (reading : Forest Resolved) : Type 0 where
  pub state : State
  pub among : Contains (states_of s w) state
  pub is : IsReading rules tree state reading

-- an implied operator over a reading of its operand
pub record IsImplied (rules : Rules) (s : Scene) (tree : Forest Form) (reading : Forest Resolved) : Type 0 where
  pub operator : ℕ
  pub among : Contains s.operators operator
  pub operand : Forest Resolved
  pub under : reading ≡ under_operator (first_place tree) operator operand
  pub is : IsReading rules tree (state.Arguments operator 0) operand

-- each interpretation is typed as it is wanted, or an operator is implied over a typed tree
abbrev pub InterpretationsAreTyped : Type 0
InterpretationsAreTyped = (rules : Rules) (s : Scene) (w : Wanted) (tree : Forest Form) (reading : Forest Resolved)
    → Contains (interpretations rules s w tree) reading → IsWanted rules s w tree reading ⊎ IsImplied rules s tree reading

-- and each tree that is typed as it is wanted is an interpretation
abbrev pub WantedAreInterpretations : Type 0
WantedAreInterpretations = (rules : Rules) (s : Scene) (w : Wanted) (tree : Forest Form) (reading : Forest Resolved)
    → IsWanted rules s w tree reading → Contains (interpretations rules s w tree) reading

-- two languages that agree on an expression in each state that can be wanted
pub record AgreeOn (a b : Rules) (s : Scene) (w : Wanted) (tree : Forest Form) : Type 0 where
  pub wanted : (state : State) → Contains (states_of s w) state → Agree a b tree state
  pub implied : (operator : ℕ) → Contains s.operators operator → Agree a b tree (state.Arguments operator 0)

abbrev pub AgreeingInterpretAlike : Type 0
AgreeingInterpretAlike = (a b : Rules) (s : Scene) (w : Wanted) (tree : Forest Form) → AgreeOn a b s w tree
    → interpretations a s w tree ≡ interpretations b s w tree
