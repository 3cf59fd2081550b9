-- The readings of an expression have its syntax; where it is a condition, an operator may be implied over it.
use Rattle.std.proofs.Common.{◌≡◌, ◌⊎◌, inl, inr, ℕ, Bool, true, false, List, [], ◌∷◌, None, refl, sym, ap, ◌∙◌}
use Rattle.std.specs.List.{Contains, flat_map}
use Rattle.std.proofs.lemmas.Bool.{false≢true}
use Rattle.vd_bytes.specs.declared.places.Place.{Place}
use Rattle.vd_forest.specs.Forest.{Forest, nothing, more}
use Rattle.vd_forms.specs.declared.form.Form.{Form}
use Rattle.vd_forms.specs.declared.form.Form.TheVariants as form
use Rattle.vd_trees.specs.declared.revision.Revision.{Revision}
use Rattle.vd_trees.specs.declared.revision.Revision.TheVariants.{V2019, V1993}
use Rattle.vd_resolved.specs.Trees.{syntax_of}
use Rattle.vd_resolved.specs.declared.node.Resolved.{Resolved}
use Rattle.vd_states.specs.declared.states.State.{State}
use Rattle.vd_states.specs.declared.states.State.TheVariants as state
use Rattle.vd_readings.specs.Readings.{Rules, readings, readings_in}
use Rattle.vd_readings.proofs.MemberLemmas.{no_member, cons_here, from_flat_map, from_map}
use Rattle.vd_readings.proofs.ReadingLaws.{readings_typed}
use Rattle.vd_overloads.specs.Interpretations.{Scene, states_of, under_operator, or_else, implied_by, implied, interpretations}
use Rattle.vd_overloads.specs.declared.wanted.Wanted.{Wanted}
use Rattle.vd_overloads.specs.declared.wanted.Wanted.TheVariants.{OfType, Condition, Discrete, Free, Range, DiscreteRange, AnyDiscreteRange, Choice}
use Rattle.vd_naming.specs.Expressions.{resolved, unresolved, only_reading}
use Rattle.vd_naming_laws.proofs.Trees.{syntax_given}

-- ---- a tree in which nothing is named, and the only reading

pub unresolved_keeps : (t : Forest Form) → syntax_of (unresolved t) ≡ t
unresolved_keeps t = syntax_given (λ f. resolved f None None) (λ f. refl) t

pub only_gives : (P : Forest Resolved → Type 0) (tree : Forest Form) (all : List (Forest Resolved)) → P (unresolved tree)
    → ((x : Forest Resolved) → Contains all x → P x) → P (only_reading tree all)
only_gives P tree [] none each = none
only_gives P tree (x ∷ []) none each = each x (cons_here x [])
only_gives P tree (x ∷ y ∷ xs) none each = none

pub only_keeps : (tree : Forest Form) (all : List (Forest Resolved)) → ((x : Forest Resolved) → Contains all x → syntax_of x ≡ tree)
    → syntax_of (only_reading tree all) ≡ tree
only_keeps tree all each = only_gives (λ x. syntax_of x ≡ tree) tree all (unresolved_keeps tree) each

-- ---- readings

pub readings_keep : (rules : Rules) (tree : Forest Form) (states : List State) (x : Forest Resolved) → Contains (readings_in rules tree states) x
    → syntax_of x ≡ tree
readings_keep rules tree states x c =
    let by = from_flat_map (readings rules tree) states x c in
    (readings_typed rules tree by.0 x by.2).source

-- ---- interpretations

abbrev pub is_plain : Wanted → Bool
is_plain Condition = false
is_plain _ = true

pub plain_keep : (rules : Rules) (s : Scene) (w : Wanted) → is_plain w ≡ true → (tree : Forest Form) (x : Forest Resolved)
    → Contains (interpretations rules s w tree) x → syntax_of x ≡ tree
plain_keep rules s Condition p tree x c = absurd (false≢true p)
plain_keep rules s (OfType t) p tree x c = readings_keep rules tree (states_of s (OfType t)) x c
plain_keep rules s Discrete p tree x c = readings_keep rules tree (states_of s Discrete) x c
plain_keep rules s Free p tree x c = readings_keep rules tree (states_of s Free) x c
plain_keep rules s (Range t) p tree x c = readings_keep rules tree (states_of s (Range t)) x c
plain_keep rules s (DiscreteRange t) p tree x c = readings_keep rules tree (states_of s (DiscreteRange t)) x c
plain_keep rules s AnyDiscreteRange p tree x c = readings_keep rules tree (states_of s AnyDiscreteRange) x c
plain_keep rules s (Choice t) p tree x c = readings_keep rules tree (states_of s (Choice t)) x c

-- ---- conditions

from_else : {X : Type 0} (xs ys : List X) (x : X) → Contains (or_else xs ys) x → Contains xs x ⊎ Contains ys x
from_else [] ys x c = inr c
from_else (z ∷ zs) ys x c = inl c

pub record IsUnder (r : Revision) (place : Place) (tree : Forest Form) (x : Forest Resolved) : Type 0 where
  pub revision : r ≡ V2019
  pub under : syntax_of x ≡ more form.Condition [] place tree nothing

module _ (rules : Rules) (s : Scene) (f : Form) (text : List ℕ) (place : Place) (parts next : Forest Form) (x : Forest Resolved) where
  by_operators : Contains (flat_map (implied_by rules s (more f text place parts next)) s.operators) x
      → syntax_of x ≡ more form.Condition [] place (more f text place parts next) nothing
  by_operators c =
      let by = from_flat_map (implied_by rules s (more f text place parts next)) s.operators x c in
      let over = from_map (under_operator place by.0) (readings rules (more f text place parts next) (state.Arguments by.0 0)) x by.2 in
      ap syntax_of (sym over.2)
      ∙ ap (λ t. more form.Condition [] place t nothing) (readings_typed rules (more f text place parts next) (state.Arguments by.0 0) over.0 over.1).source

  by_revision : (r : Revision)
      → Contains (elim r as (λ _. List (Forest Resolved)) [ V2019 ↦ flat_map (implied_by rules s (more f text place parts next)) s.operators | V1993 ↦ [] ]) x
      → IsUnder r place (more f text place parts next) x
  by_revision V2019 c = record { revision = refl; under = by_operators c }
  by_revision V1993 c = absurd (no_member x c)

  pub condition_keeps : Contains (interpretations rules s Condition (more f text place parts next)) x
      → (syntax_of x ≡ more f text place parts next) ⊎ IsUnder s.revision place (more f text place parts next) x
  condition_keeps c =
      elim (from_else (readings_in rules (more f text place parts next) (states_of s Condition)) (implied rules s (more f text place parts next)) x c) [
        | inl first ↦ inl (readings_keep rules (more f text place parts next) (states_of s Condition) x first)
        | inr second ↦ inr (by_revision s.revision second)
      ]
