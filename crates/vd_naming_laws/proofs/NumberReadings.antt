-- Readings name what is declared.
use Rattle.std.proofs.Common.{ℕ, List, [], ◌∷◌, map}
use Rattle.std.specs.List.{AllByRecursion, Contains, filter, flat_map}
use Rattle.vd_bytes.specs.declared.places.Place.{Place}
use Rattle.vd_forest.specs.Forest.{Forest, nothing, more}
use Rattle.vd_forms.specs.declared.form.Form.{Form}
use Rattle.vd_predefined.specs.declared.numbers.TheConstants.{STANDARD, STD_LOGIC_1164}
use Rattle.vd_resolved.specs.declared.node.Resolved.{Resolved}
use Rattle.vd_states.specs.declared.states.State.{State}
use Rattle.vd_states.specs.declared.states.State.TheVariants as state
use Rattle.vd_states.specs.declared.ways.Way.{Way}
use Rattle.vd_trees.specs.declared.revision.Revision.{Revision}
use Rattle.vd_trees.specs.declared.revision.Revision.TheVariants.{V2019, V1993}
use Rattle.vd_visible.specs.Sights.{Standpoint, sight_from}
use Rattle.vd_visible.specs.Types.{all_types}
use Rattle.vd_ways.specs.Ways.{ways}
use Rattle.vd_readings.specs.Readings.{resolved, with_node, readings, readings_in}
use Rattle.vd_overloads.specs.Environment.{rules_at, scene_at, condition_symbol, condition_operators}
use Rattle.vd_overloads.specs.Interpretations.{value_of, discrete_range_of, states_of, first_place, under_operator, or_else, implied_by, implied, interpretations}
use Rattle.vd_overloads.specs.declared.wanted.Wanted.{Wanted}
use Rattle.vd_overloads.specs.declared.wanted.Wanted.TheVariants as wanted
use Rattle.vd_naming_laws.specs.Numbers.{IsDeclared, IsTypeIn, IsSound, NamesDeclared, WantsType}
use Rattle.vd_naming_laws.proofs.Lists.{list_if, all_append, all_map, all_filter, all_flat_map, all_contained}
use Rattle.vd_naming_laws.proofs.Sights.{behind_own, all_are_types}
use Rattle.vd_naming_laws.proofs.Ways.{StateIs, WayIs, all_ways}

module _ (p : Standpoint) (sound : IsSound p.scopes) where
  abbrev Named : Forest Resolved → Type 0
  Named tree = NamesDeclared p.scopes tree

  -- ---- readings in a state

  over_way : (form : Form) (name : List ℕ) (place : Place) (way : Way) (inners rests : List (Forest Resolved)) → WayIs p way → AllByRecursion Named inners
      → AllByRecursion Named rests → AllByRecursion Named (with_node (resolved form way) name place inners rests)
  over_way form name place way inners rests is in_are rest_are =
      all_flat_map (λ inner. map (more (resolved form way) name place inner) rests) Named Named
      (λ inner in_is. all_map (more (resolved form way) name place inner) Named Named (λ rest rest_is. (is.0, is.1, in_is, rest_is)) rests rest_are) inners in_are

  pub readings_named : (f : Forest Form) (st : State) → StateIs p st → AllByRecursion Named (readings (rules_at p) f st)
  readings_named nothing st is = list_if Named ((rules_at p).ends st) (nothing ∷ []) [] (tt, tt) tt
  readings_named (more form name place parts next) st is =
      all_flat_map (λ way. with_node (resolved form way) name place (readings (rules_at p) parts way.inside) (readings (rules_at p) next way.after)) (WayIs p) Named
      (λ way way_is.
      over_way form name place way (readings (rules_at p) parts way.inside) (readings (rules_at p) next way.after) way_is
      (readings_named parts way.inside way_is.2) (readings_named next way.after way_is.3))
      (ways (sight_from p) st form name parts) (all_ways p sound st form name parts is)

  pub readings_in_named : (f : Forest Form) (states : List State) → AllByRecursion (StateIs p) states → AllByRecursion Named (readings_in (rules_at p) f states)
  readings_in_named f states are = all_flat_map (readings (rules_at p) f) (StateIs p) Named (λ st is. readings_named f st is) states are

  -- ---- interpretations

  wanted_states : (w : Wanted) → WantsType p.scopes w → AllByRecursion (StateIs p) (states_of (scene_at p) w)
  wanted_states (wanted.OfType t) is = (is, tt)
  wanted_states wanted.Condition is = (sound.boolean, tt)
  wanted_states wanted.Discrete is =
      all_map value_of (IsTypeIn p.scopes) (StateIs p) (λ t typed. typed) (filter (scene_at p).is_discrete (all_types (sight_from p)))
      (all_filter (IsTypeIn p.scopes) (scene_at p).is_discrete (all_types (sight_from p)) (all_are_types p sound))
  wanted_states wanted.Free is = all_map value_of (IsTypeIn p.scopes) (StateIs p) (λ t typed. typed) (all_types (sight_from p)) (all_are_types p sound)
  wanted_states (wanted.Range t) is = (is, tt)
  wanted_states (wanted.DiscreteRange t) is = (is, tt)
  wanted_states wanted.AnyDiscreteRange is =
      all_map discrete_range_of (IsTypeIn p.scopes) (StateIs p) (λ t typed. typed) (filter (scene_at p).is_discrete (all_types (sight_from p)))
      (all_filter (IsTypeIn p.scopes) (scene_at p).is_discrete (all_types (sight_from p)) (all_are_types p sound))
  wanted_states (wanted.Choice t) is = (is, tt)

  operators_own : AllByRecursion (IsDeclared p.scopes) (condition_operators (sight_from p))
  operators_own =
      all_append (IsDeclared p.scopes) ((sight_from p).selected STANDARD condition_symbol) ((sight_from p).selected STD_LOGIC_1164 condition_symbol)
      (behind_own p sound STANDARD condition_symbol) (behind_own p sound STD_LOGIC_1164 condition_symbol)

  under_named : (tree : Forest Form) (operator : ℕ) → IsDeclared p.scopes operator → AllByRecursion Named (implied_by (rules_at p) (scene_at p) tree operator)
  under_named tree operator own =
      all_map (under_operator (first_place tree) operator) Named Named (λ operand is. (own, sound.boolean, is, tt))
      (readings (rules_at p) tree (state.Arguments operator 0)) (readings_named tree (state.Arguments operator 0) tt)

  implied_in : (r : Revision) (tree : Forest Form)
      → AllByRecursion Named (elim r [ V2019 ↦ flat_map (implied_by (rules_at p) (scene_at p) tree) (condition_operators (sight_from p)) | V1993 ↦ [] ])
  implied_in V2019 tree =
      all_flat_map (implied_by (rules_at p) (scene_at p) tree) (IsDeclared p.scopes) Named (under_named tree) (condition_operators (sight_from p)) operators_own
  implied_in V1993 tree = tt

  or_named : (xs ys : List (Forest Resolved)) → AllByRecursion Named xs → AllByRecursion Named ys → AllByRecursion Named (or_else xs ys)
  or_named [] ys x_are y_are = y_are
  or_named (x ∷ xs) ys x_are y_are = x_are

  pub interpretations_named : (w : Wanted) (tree : Forest Form) → WantsType p.scopes w → AllByRecursion Named (interpretations (rules_at p) (scene_at p) w tree)
  interpretations_named wanted.Condition tree is =
      or_named (readings_in (rules_at p) tree (states_of (scene_at p) wanted.Condition)) (implied (rules_at p) (scene_at p) tree)
      (readings_in_named tree (states_of (scene_at p) wanted.Condition) (wanted_states wanted.Condition tt)) (implied_in p.revision tree)
  interpretations_named w tree is = readings_in_named tree (states_of (scene_at p) w) (wanted_states w is)

  pub interpretation_named : (w : Wanted) (tree : Forest Form) (reading : Forest Resolved) → WantsType p.scopes w
      → Contains (interpretations (rules_at p) (scene_at p) w tree) reading → Named reading
  interpretation_named w tree reading is c = all_contained Named (interpretations (rules_at p) (scene_at p) w tree) reading (interpretations_named w tree is) c
