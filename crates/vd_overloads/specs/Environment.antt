-- What is known at a place of a design, by what is declared there. (IEEE 1076, visibility; conditions; aggregates)
use Rattle.std.specs.Prelude.{ℕ, Bool, true, false, ◌&&◌, not, List, [], ◌∷◌, ◌++◌, codes, Option, Some, None, if◌then◌else◌}
use Rattle.std.specs.List.{list_any}
use Rattle.vd_bytes.specs.declared.places.Place.{Place}
use Rattle.vd_forest.specs.Forest.{Forest}
use Rattle.vd_declarations.specs.declared.classes.Class.{Class}
use Rattle.vd_declarations.specs.declared.classes.Class.TheVariants as class
use Rattle.vd_forms.specs.declared.form.Form.{Form}
use Rattle.vd_predefined.specs.declared.numbers.TheConstants.{BOOLEAN, STANDARD, STD_LOGIC_1164}
use Rattle.vd_walks.specs.Finding.{Finder, first_found}
use Rattle.vd_readings.specs.Readings.{Rules}
use Rattle.vd_refusals.specs.Refusals.{first_refusal}
use Rattle.vd_states.specs.declared.states.Want.{Want}
use Rattle.vd_states.specs.declared.states.Want.TheVariants as want
use Rattle.vd_overloads.specs.declared.around.Around.{Around}
use Rattle.vd_overloads.specs.declared.around.Around.TheVariants as around
use Rattle.vd_overloads.specs.declared.wanted.Wanted.{Wanted}
use Rattle.vd_overloads.specs.declared.wanted.Wanted.TheVariants as wanted
use Rattle.vd_visible.specs.declared.kinds.Kind.TheVariants as kind
use Rattle.vd_visible.specs.Kinds.{kind_of}
use Rattle.vd_visible.specs.Lists.{simple_name, elements_named}
use Rattle.vd_visible.specs.Sights.{Sight, Standpoint, sight_from, class_of}
use Rattle.vd_visible.specs.Types.{all_types, is_discrete}
use Rattle.vd_ways.specs.Ways.{ways, ends}
use Rattle.vd_overloads.specs.Interpretations.{Scene}

-- the language of expressions
abbrev pub rules_at : Standpoint → Rules
rules_at p = record { ways = ways (sight_from p); ends = ends (sight_from p) }

-- the operators `??` of BIT, which stands in `std.standard`, and of STD_ULOGIC, which stands in `ieee.std_logic_1164`
abbrev pub condition_symbol : List ℕ
condition_symbol = codes "\"??\""

abbrev pub condition_operators : Sight → List ℕ
condition_operators s = s.selected STANDARD condition_symbol ++ s.selected STD_LOGIC_1164 condition_symbol

-- ---- choices of aggregates that name nothing: no declaration is visible by the name, that of a library aside, and no record type has an
-- element of this name. What stands in front of `=>` in a call is no choice.

abbrev pub is_some_list : List ℕ → Bool
is_some_list [] = false
is_some_list (k ∷ ks) = true

abbrev pub names_element : Sight → List ℕ → Bool
names_element s name = list_any (λ t. is_some_list (elements_named s t name)) (all_types s)

abbrev pub is_library : Class → Bool
is_library class.Library = true
is_library _ = false

abbrev pub names_declaration : Sight → List ℕ → Bool
names_declaration s name = list_any (λ k. not (is_library (class_of s k))) (s.visible name)

abbrev pub names_nothing : Sight → Option (List ℕ) → Bool
names_nothing s None = false
names_nothing s (Some name) = not (names_declaration s name) && not (names_element s name)

-- the choices of an association, which are those of an aggregate unless it is an argument
abbrev pub choices_in : Around → Around
choices_in around.Arguments = around.Anything
choices_in around.Choices = around.Choices
choices_in around.Anything = around.Choices

abbrev pub down_from : Around → Form → Around
down_from a form =
    elim (kind_of form) [
      | kind.Arguments ↦ around.Arguments
      | kind.Association ↦ a
      | kind.AssociationChoices ↦ choices_in a
      | _ ↦ around.Anything
    ]

abbrev pub are_choices : Around → Bool
are_choices around.Choices = true
are_choices _ = false

-- the place of a tree that is one
abbrev pub unknown_finder : Sight → Finder Form Around Place
unknown_finder s = record {
  answer = λ a form text place parts. if are_choices a && names_nothing s (simple_name form parts) then Some place else None;
  down = λ a form text place parts. down_from a form;
  along = λ a form text place parts. a;
}

abbrev pub first_unknown : Sight → Forest Form → Option Place
first_unknown s tree = first_found (unknown_finder s) around.Anything tree

-- ---- what is known there, beside the language

-- As what a name is wanted. Where any type will do, the one that is named here doesn't count.
abbrev pub want_of : Wanted → Want
want_of (wanted.OfType t) = want.Value t
want_of wanted.Condition = want.Value BOOLEAN
want_of wanted.Discrete = want.Value BOOLEAN
want_of wanted.Free = want.Value BOOLEAN
want_of (wanted.Range t) = want.Range t
want_of (wanted.DiscreteRange t) = want.DiscreteRange t
want_of wanted.AnyDiscreteRange = want.DiscreteRange BOOLEAN
want_of (wanted.Choice t) = want.Choice t

abbrev pub scene_at : Standpoint → Scene
scene_at p = record {
  revision = p.revision;
  types = all_types (sight_from p);
  is_discrete = λ t. is_discrete (class_of (sight_from p) t);
  operators = condition_operators (sight_from p);
  refused = λ w tree. first_refusal (sight_from p) (want_of w) tree;
  unknown = first_unknown (sight_from p);
}
