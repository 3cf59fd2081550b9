-- The interpretations of an expression where something is wanted of it, and what is answered of one that hasn't exactly one.
-- (IEEE 1076, overload resolution; conditions and the operator that is implied in them)
use Rattle.std.specs.Prelude.{◌≡◌, ◌⊎◌, ℕ, ◌≤◌, Bool, List, [], ◌∷◌, map, length, Option, Some, None}
use Rattle.std.specs.List.{filter, flat_map}
use Rattle.vd_bytes.specs.declared.answers.Refused.{Refused}
use Rattle.vd_bytes.specs.declared.places.Place.{Place}
use Rattle.vd_forest.specs.Forest.{Forest, nothing, more, with_next, no_place}
use Rattle.vd_forms.specs.declared.form.Form.{Form}
use Rattle.vd_forms.specs.declared.form.Form.TheVariants as form
use Rattle.vd_predefined.specs.declared.numbers.TheConstants.{BOOLEAN}
use Rattle.vd_resolved.specs.declared.node.Resolved.{Resolved}
use Rattle.vd_states.specs.declared.states.State.{State}
use Rattle.vd_states.specs.declared.states.State.TheVariants as state
use Rattle.vd_states.specs.declared.states.Want.TheVariants as want
use Rattle.vd_trees.specs.declared.revision.Revision.{Revision}
use Rattle.vd_trees.specs.declared.revision.Revision.TheVariants.{V2019, V1993}
use Rattle.vd_readings.specs.Readings.{Rules, readings, readings_in}
use Rattle.vd_overloads.specs.declared.wanted.Wanted.{Wanted}
use Rattle.vd_overloads.specs.declared.wanted.Wanted.TheVariants as wanted

-- What is known where an expression stands, beside the language: the revision, all types declared so far, which of them are discrete,
-- the operators `??` that can be implied; the first name of an expression that is refused whatever its types are; and the first choice
-- that names nothing.
pub record Scene : Type 0 where
  pub revision : Revision
  pub types : List ℕ
  pub is_discrete : ℕ → Bool
  pub operators : List ℕ
  pub refused : Wanted → Forest Form → Option Refused
  pub unknown : Forest Form → Option Place

-- ---- what is wanted, as states

abbrev pub value_of : ℕ → State
value_of t = state.Only (want.Value t)

abbrev pub discrete_range_of : ℕ → State
discrete_range_of t = state.Only (want.DiscreteRange t)

abbrev pub states_of : Scene → Wanted → List State
states_of s (wanted.OfType t) = value_of t ∷ []
states_of s wanted.Condition = value_of BOOLEAN ∷ []
states_of s wanted.Discrete = map value_of (filter s.is_discrete s.types)
states_of s wanted.Free = map value_of s.types
states_of s (wanted.Range t) = state.Only (want.Range t) ∷ []
states_of s (wanted.DiscreteRange t) = discrete_range_of t ∷ []
states_of s wanted.AnyDiscreteRange = map discrete_range_of (filter s.is_discrete s.types)
states_of s (wanted.Choice t) = state.Only (want.Choice t) ∷ []

-- ---- the interpretations

-- an expression: the first tree of a forest, with nothing behind it
abbrev pub alone : Forest Form → Forest Form
alone tree = with_next tree nothing

-- the place of the first token
abbrev pub first_place : Forest Form → Place
first_place nothing = no_place
first_place (more form text place parts next) = place

-- an operator `??` that isn't written, over what it is applied to
abbrev pub implied_node : ℕ → Resolved
implied_node operator = record { form = form.Condition; declaration = Some operator; mark = Some BOOLEAN; position = 0 }

abbrev pub under_operator : Place → ℕ → Forest Resolved → Forest Resolved
under_operator place operator operand = more (implied_node operator) [] place operand nothing

abbrev pub or_else : {X : Type 0} → List X → List X → List X
or_else [] others = others
or_else (x ∷ xs) others = x ∷ xs

module _ (rules : Rules) (s : Scene) where
  abbrev pub implied_by : Forest Form → ℕ → List (Forest Resolved)
  implied_by tree operator = map (under_operator (first_place tree) operator) (readings rules tree (state.Arguments operator 0))

  abbrev pub implied : Forest Form → List (Forest Resolved)
  implied tree = elim s.revision [ V2019 ↦ flat_map (implied_by tree) s.operators | V1993 ↦ [] ]

  -- Those of a condition are of type BOOLEAN; where there are none, an operator is implied in revision 2019.
  abbrev pub interpretations : Wanted → Forest Form → List (Forest Resolved)
  interpretations wanted.Condition tree = or_else (readings_in rules tree (states_of s wanted.Condition)) (implied tree)
  interpretations w tree = readings_in rules tree (states_of s w)

-- ---- what is answered where there isn't one: the first name that is refused, or else that there is none or that there are several

abbrev pub none_fits : Option Place → Place → Refused
none_fits None place = record { place = place; rule = 305 }
none_fits (Some choice) place = record { place = choice; rule = 303 }

abbrev pub counted : Option Place → Place → List (Forest Resolved) → Refused
counted unknown place [] = none_fits unknown place
counted unknown place (reading ∷ readings) = record { place = place; rule = 306 }

abbrev pub refusal : Option Refused → Option Place → Place → List (Forest Resolved) → Refused
refusal (Some name) unknown place all = name
refusal None unknown place all = counted unknown place all

-- a list that hasn't exactly one member
abbrev pub IsNotOne : List (Forest Resolved) → Type 0
IsNotOne all = (all ≡ []) ⊎ (2 ≤ length all)
