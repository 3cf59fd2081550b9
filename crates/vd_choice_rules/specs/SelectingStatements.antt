-- Statements with choices, in memory.
use Rattle.std.specs.Prelude.{◌≡◌, Bool, None, Option, Some, false, true, ℕ}
use Rattle.vd_bytes.specs.declared.places.Place.{Place}
use Rattle.vd_choice_rules.specs.declared.selecting_statements.PartNumbers.{PartNumbers}
use Rattle.vd_choice_rules.specs.declared.selecting_statements.Parts.{Parts}
use Rattle.vd_choice_rules.specs.declared.selecting_statements.Selecting.{Selecting}
use Rattle.vd_forest.specs.Forest.{Forest, more, nothing}
use Rattle.vd_given_choices.specs.Choices.{AreChoices}
use Rattle.vd_meaning.specs.Facets.{ByEquality, ByMatching, Comparison}
use Rattle.vd_resolved.specs.declared.node.Resolved.{Resolved}
use Rattle.vd_known_lengths.specs.Shapes.{IsShape}
use Rattle.vd_value_rules.specs.Choices.{selecting_with}
use Rattle.vd_value_rules.specs.Choices as rules
use Rattle.vd_value_rules.specs.Designs.{Design}
use Rattle.vd_value_rules.specs.Knowledge.{meaning_at}
use Rattle.vd_value_rules.specs.Standings.{State}
use Rattle.vd_vectors.specs.declared.logics.LogicType.{LogicType}

abbrev pub comparison_of : Option LogicType → Comparison
comparison_of None = ByEquality
comparison_of (Some of) = ByMatching of

pub record IsSelecting (x : Selecting) (s : rules.Selecting) : Type 0 where
  pub place : s.place ≡ x.place
  pub selector_place : s.selector_place ≡ x.selector_place
  pub shape : IsShape x.shape s.selector
  pub selectable : s.is_selectable ≡ x.is_selectable
  pub comparison : s.comparison ≡ comparison_of x.matching
  pub others : s.has_others ≡ x.has_others
  pub choices : AreChoices x.choices.items s.choices

abbrev pub word_there : Design → Option ℕ → Forest Resolved → Bool
word_there d None parts = false
word_there d (Some n) parts = (meaning_at d n parts).is_present

-- by the numbers of its parts
abbrev pub selecting_by_word : Design → State → Place → Forest Resolved → ℕ → Option ℕ → ℕ → Forest Resolved → rules.Selecting
selecting_by_word d s place parts selector None at alternatives =
    record (selecting_with d s place parts selector 3 at alternatives) { comparison = ByEquality }
selecting_by_word d s place parts selector (Some word) at alternatives = selecting_with d s place parts selector word at alternatives

abbrev pub selecting_by : Design → State → Place → Forest Resolved → PartNumbers → Forest Resolved → rules.Selecting
selecting_by d s place parts numbers alternatives = selecting_by_word d s place parts numbers.selector numbers.word numbers.choices alternatives

abbrev pub by_parts : Design → State → Place → Forest Resolved → Option Parts → Option rules.Selecting
by_parts d s place parts None = None
by_parts d s place parts (Some x) = Some (selecting_by d s place parts x.numbers x.alternatives)

abbrev pub IsSelectingIn : Option Selecting → Option rules.Selecting → Type 0
IsSelectingIn None None = Unit {0}
IsSelectingIn (Some x) (Some s) = IsSelecting x s
IsSelectingIn _ _ = ⊥

abbrev pub is_nothing : Forest Resolved → Bool
is_nothing nothing = true
is_nothing (more n text place parts next) = false
