-- Interpretations are typed trees, and go with the language.
use Rattle.std.proofs.Common.{◌≡◌, ◌⊎◌, inl, inr, List, [], ◌∷◌, map, refl, sym, ap, ◌∙◌}
use Rattle.std.specs.List.{Contains, flat_map}
use Rattle.vd_forest.specs.Forest.{Forest}
use Rattle.vd_forms.specs.declared.form.Form.{Form}
use Rattle.vd_resolved.specs.declared.node.Resolved.{Resolved}
use Rattle.vd_states.specs.declared.states.State.TheVariants as state
use Rattle.vd_trees.specs.declared.revision.Revision.{Revision}
use Rattle.vd_trees.specs.declared.revision.Revision.TheVariants.{V2019, V1993}
use Rattle.vd_readings.specs.Readings.{Rules, readings, readings_in}
use Rattle.vd_readings.proofs.MemberLemmas.{no_member, in_flat_map, from_flat_map, flat_map_same, from_map}
use Rattle.vd_readings.proofs.ReadingLaws.{readings_typed, typed_readings, agreeing_alike}
use Rattle.vd_overloads.specs.Interpretations.{Scene, states_of, first_place, under_operator, or_else, implied_by, implied}
use Rattle.vd_overloads.specs.Laws.{IsWanted, IsImplied, InterpretationsAreTyped, WantedAreInterpretations, AgreeOn, AgreeingInterpretAlike}
use Rattle.vd_overloads.specs.declared.wanted.Wanted.{Wanted}
use Rattle.vd_overloads.specs.declared.wanted.Wanted.TheVariants.{OfType, Condition, Discrete, Free, Range, DiscreteRange, AnyDiscreteRange, Choice}

from_else : {X : Type 0} (xs ys : List X) (x : X) → Contains (or_else xs ys) x → Contains xs x ⊎ Contains ys x
from_else [] ys x c = inr c
from_else (z ∷ zs) ys x c = inl c

in_else : {X : Type 0} (xs ys : List X) (x : X) → Contains xs x → Contains (or_else xs ys) x
in_else [] ys x c = absurd (no_member x c)
in_else (z ∷ zs) ys x c = c

module _ (rules : Rules) (s : Scene) (w : Wanted) (tree : Forest Form) (reading : Forest Resolved) where
  are_wanted : Contains (readings_in rules tree (states_of s w)) reading → IsWanted rules s w tree reading
  are_wanted c =
      let by = from_flat_map (readings rules tree) (states_of s w) reading c in
      record { state = by.0; among = by.1; is = readings_typed rules tree by.0 reading by.2 }

  wanted_are : IsWanted rules s w tree reading → Contains (readings_in rules tree (states_of s w)) reading
  wanted_are is = in_flat_map (readings rules tree) (states_of s w) is.state reading is.among (typed_readings rules tree is.state reading is.is)

module _ (rules : Rules) (s : Scene) (tree : Forest Form) (reading : Forest Resolved) where
  by_operators : Contains (flat_map (implied_by rules s tree) s.operators) reading → IsImplied rules s tree reading
  by_operators c =
      let by = from_flat_map (implied_by rules s tree) s.operators reading c in
      let over = from_map (under_operator (first_place tree) by.0) (readings rules tree (state.Arguments by.0 0)) reading by.2 in
      record {
        operator = by.0;
        among = by.1;
        operand = over.0;
        under = sym over.2;
        is = readings_typed rules tree (state.Arguments by.0 0) over.0 over.1;
      }

  by_revision : (r : Revision) → Contains (elim r as (λ _. List (Forest Resolved)) [ V2019 ↦ flat_map (implied_by rules s tree) s.operators | V1993 ↦ [] ]) reading
      → IsImplied rules s tree reading
  by_revision V2019 c = by_operators c
  by_revision V1993 c = absurd (no_member reading c)

pub interpretations_typed : InterpretationsAreTyped
interpretations_typed rules s Condition tree reading c =
    elim (from_else (readings_in rules tree (states_of s Condition)) (implied rules s tree) reading c) [
      | inl first ↦ inl (are_wanted rules s Condition tree reading first)
      | inr second ↦ inr (by_revision rules s tree reading s.revision second)
    ]
interpretations_typed rules s (OfType t) tree reading c = inl (are_wanted rules s (OfType t) tree reading c)
interpretations_typed rules s Discrete tree reading c = inl (are_wanted rules s Discrete tree reading c)
interpretations_typed rules s Free tree reading c = inl (are_wanted rules s Free tree reading c)
interpretations_typed rules s (Range t) tree reading c = inl (are_wanted rules s (Range t) tree reading c)
interpretations_typed rules s (DiscreteRange t) tree reading c = inl (are_wanted rules s (DiscreteRange t) tree reading c)
interpretations_typed rules s AnyDiscreteRange tree reading c = inl (are_wanted rules s AnyDiscreteRange tree reading c)
interpretations_typed rules s (Choice t) tree reading c = inl (are_wanted rules s (Choice t) tree reading c)

pub wanted_interpretations : WantedAreInterpretations
wanted_interpretations rules s Condition tree reading is =
    in_else (readings_in rules tree (states_of s Condition)) (implied rules s tree) reading (wanted_are rules s Condition tree reading is)
wanted_interpretations rules s (OfType t) tree reading is = wanted_are rules s (OfType t) tree reading is
wanted_interpretations rules s Discrete tree reading is = wanted_are rules s Discrete tree reading is
wanted_interpretations rules s Free tree reading is = wanted_are rules s Free tree reading is
wanted_interpretations rules s (Range t) tree reading is = wanted_are rules s (Range t) tree reading is
wanted_interpretations rules s (DiscreteRange t) tree reading is = wanted_are rules s (DiscreteRange t) tree reading is
wanted_interpretations rules s AnyDiscreteRange tree reading is = wanted_are rules s AnyDiscreteRange tree reading is
wanted_interpretations rules s (Choice t) tree reading is = wanted_are rules s (Choice t) tree reading is

-- ---- two languages

module _ (a b : Rules) (s : Scene) (w : Wanted) (tree : Forest Form) (agree : AgreeOn a b s w tree) where
  alike_in : readings_in a tree (states_of s w) ≡ readings_in b tree (states_of s w)
  alike_in = flat_map_same (readings a tree) (readings b tree) (states_of s w) (λ q c. agreeing_alike a b tree q (agree.wanted q c))

  alike_operators : flat_map (implied_by a s tree) s.operators ≡ flat_map (implied_by b s tree) s.operators
  alike_operators = flat_map_same (implied_by a s tree) (implied_by b s tree) s.operators
      (λ f c. ap (map (under_operator (first_place tree) f)) (agreeing_alike a b tree (state.Arguments f 0) (agree.implied f c)))

  alike_implied : (r : Revision) → (elim r as (λ _. List (Forest Resolved)) [ V2019 ↦ flat_map (implied_by a s tree) s.operators | V1993 ↦ [] ])
      ≡ (elim r as (λ _. List (Forest Resolved)) [ V2019 ↦ flat_map (implied_by b s tree) s.operators | V1993 ↦ [] ])
  alike_implied V2019 = alike_operators
  alike_implied V1993 = refl

pub interpreted_alike : AgreeingInterpretAlike
interpreted_alike a b s Condition tree agree =
    ap (λ xs. or_else xs (implied a s tree)) (alike_in a b s Condition tree agree)
    ∙ ap (or_else (readings_in b tree (states_of s Condition))) (alike_implied a b s Condition tree agree s.revision)
interpreted_alike a b s (OfType t) tree agree = alike_in a b s (OfType t) tree agree
interpreted_alike a b s Discrete tree agree = alike_in a b s Discrete tree agree
interpreted_alike a b s Free tree agree = alike_in a b s Free tree agree
interpreted_alike a b s (Range t) tree agree = alike_in a b s (Range t) tree agree
interpreted_alike a b s (DiscreteRange t) tree agree = alike_in a b s (DiscreteRange t) tree agree
interpreted_alike a b s AnyDiscreteRange tree agree = alike_in a b s AnyDiscreteRange tree agree
interpreted_alike a b s (Choice t) tree agree = alike_in a b s (Choice t) tree agree
