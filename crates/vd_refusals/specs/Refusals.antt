-- The first name of an expression that is refused by what is visible alone, in the order of the text: 303, where nothing visible has the
-- name, 302, where a library has no such unit yet, and 307, where what has it can't stand there. A name is refused at its first token, but for an attribute that its prefix can't
-- have, which is refused behind the apostrophe. (IEEE 1076, visibility; names)
use Rattle.std.specs.Prelude.{ℕ, Bool, true, false, List, [], ◌∷◌, Option, Some, None}
use Rattle.vd_bytes.specs.declared.places.Place.{Place}
use Rattle.vd_bytes.specs.declared.answers.Refused.{Refused}
use Rattle.vd_declarations.specs.declared.classes.Class.{Class}
use Rattle.vd_declarations.specs.declared.classes.Class.TheVariants as class
use Rattle.vd_walks.specs.Finding.{Finder, first_found}
use Rattle.vd_forest.specs.Forest.{Forest, text_of, place_of}
use Rattle.vd_forms.specs.declared.form.Form.{Form}
use Rattle.vd_states.specs.declared.states.Want.{Want}
use Rattle.vd_states.specs.declared.states.Want.TheVariants as want
use Rattle.vd_visible.specs.declared.kinds.Kind.{Kind}
use Rattle.vd_visible.specs.declared.kinds.Kind.TheVariants as kind
use Rattle.vd_visible.specs.declared.attributes.Attribute.TheVariants as attribute
use Rattle.vd_visible.specs.Kinds.{kind_of, attribute_named}
use Rattle.vd_visible.specs.Sights.{Sight, class_of}
use Rattle.vd_visible.specs.Lists.{simple_name}
use Rattle.vd_refusals.specs.declared.seen.Seen.{Seen}
use Rattle.vd_refusals.specs.declared.seen.Seen.TheVariants as seen
use Rattle.vd_refusals.specs.declared.spots.Need.{Need}
use Rattle.vd_refusals.specs.declared.spots.Need.TheVariants as need
use Rattle.vd_refusals.specs.declared.spots.Spot.{Spot}
use Rattle.vd_refusals.specs.declared.spots.Spot.TheVariants as spot
use Rattle.vd_refusals.specs.Seen.{head_seen, piece_seen, name_seen, can_have}

-- ---- the rule that the whole of a name breaks where something is needed of it

abbrev pub refuses_mark : Need → Option ℕ
refuses_mark need.Value = Some 307
refuses_mark need.Range = Some 307
refuses_mark _ = None

abbrev pub refuses_value : Need → Option ℕ
refuses_value need.Value = None
refuses_value need.Choice = None
refuses_value _ = Some 307

abbrev pub refuses_others : Need → Option ℕ
refuses_others need.Mark = Some 307
refuses_others _ = None

abbrev pub broken_by : Seen → Need → Option ℕ
broken_by (seen.Unit k) n = Some 307
broken_by (seen.Mark t) n = refuses_mark n
broken_by (seen.Valued t signal) n = refuses_value n
broken_by seen.Ranged n = refuses_others n
broken_by seen.Awaiting n = refuses_others n
broken_by seen.Unknown n = refuses_others n
broken_by (seen.Broken rule) n = Some rule

abbrev pub refused_at : Place → Option ℕ → Option Refused
refused_at place None = None
refused_at place (Some rule) = Some (record { place = place; rule = rule })

-- ---- what a node is needed for, where it is a name. A choice that is an identifier may be no name

abbrev pub choice_need : Option (List ℕ) → Option Need
choice_need None = Some need.Choice
choice_need (Some name) = None

abbrev pub need_at : Spot → Form → Forest Form → Option Need
need_at (spot.Only n) form parts = Some n
need_at (spot.Each n) form parts = Some n
need_at spot.ConstrainedMark form parts = Some need.Mark
need_at (spot.Listed n) form parts = Some n
need_at spot.Choices form parts = choice_need (simple_name form parts)
need_at spot.Association form parts = None
need_at spot.Skipped form parts = None
need_at spot.PhysicalValue form parts = None
need_at spot.Unit form parts = None
need_at spot.Head form parts = None
need_at (spot.Pieces p) form parts = None

-- ---- what a node is refused for

abbrev pub refused_name : Option Need → Sight → Place → Forest Form → Option Refused
refused_name None s place parts = None
refused_name (Some n) s place parts = refused_at place (broken_by (name_seen s parts) n)

abbrev pub refused_expression : Kind → Option Need → Sight → Place → Forest Form → Option Refused
refused_expression kind.Name n s place parts = refused_name n s place parts
refused_expression kind.OperatorName n s place parts = refused_name n s place parts
refused_expression _ n s place parts = None

abbrev pub first_place_or : Option Place → Place → Place
first_place_or None place = place
first_place_or (Some other) place = other

abbrev pub refused_unless : Bool → Place → Option Refused
refused_unless true place = None
refused_unless false place = Some (record { place = place; rule = 307 })

-- an attribute stands behind the apostrophe
abbrev pub refused_piece : Kind → Seen → Sight → Place → Forest Form → Option Refused
refused_piece kind.Attribute p s place parts =
    refused_unless (can_have p s (attribute_named (text_of parts))) (first_place_or (place_of parts) place)
refused_piece kind.RangeAttribute p s place parts = refused_unless (can_have p s attribute.ReverseRange) place
refused_piece _ p s place parts = None

abbrev pub is_unit : Class → Bool
is_unit class.PhysicalUnit = true
is_unit _ = false

-- the unit of a physical literal
abbrev pub refused_unit_among : List ℕ → Sight → Place → Option Refused
refused_unit_among [] s place = Some (record { place = place; rule = 303 })
refused_unit_among (k ∷ ks) s place = refused_unless (is_unit (class_of s k)) place

abbrev pub refused_node : Spot → Sight → Form → List ℕ → Place → Forest Form → Option Refused
refused_node (spot.Pieces p) s form text place parts = refused_piece (kind_of form) p s place parts
refused_node spot.Unit s form text place parts = refused_unit_among (s.visible text) s place
refused_node at s form text place parts = refused_expression (kind_of form) (need_at at form parts) s place parts

-- ---- the places inside a node and behind it

-- an index or an argument: only behind a mark, and behind an attribute of a type, it must be a value
abbrev pub argument_need : Seen → Need
argument_need (seen.Mark t) = need.Value
argument_need seen.Awaiting = need.Value
argument_need _ = need.Choice

abbrev pub inside_brackets : Spot → Spot
inside_brackets (spot.Pieces p) = spot.Listed (argument_need p)
inside_brackets _ = spot.Skipped

abbrev pub inside_name : Option Need → Spot
inside_name None = spot.Skipped
inside_name (Some n) = spot.Head

abbrev pub inside : Kind → Spot → Form → Forest Form → Spot
inside kind.Name at form parts = inside_name (need_at at form parts)
inside kind.OperatorName at form parts = inside_name (need_at at form parts)
inside kind.PhysicalLiteral at form parts = spot.PhysicalValue
inside kind.Aggregate at form parts = spot.Listed need.Value
inside kind.Operator at form parts = spot.Each need.Value
inside kind.Bounds at form parts = spot.Each need.Value
inside kind.DiscreteSubtype at form parts = spot.ConstrainedMark
inside kind.Association at form parts = spot.Association
inside kind.OthersAssociation at form parts = spot.Only need.Value
inside kind.AssociationChoices at form parts = spot.Choices
inside kind.Arguments at form parts = inside_brackets at
inside kind.Qualification at form parts = spot.Listed need.Value
inside _ at form parts = spot.Skipped

abbrev pub behind : Spot → Sight → Form → List ℕ → Forest Form → Spot
behind spot.Skipped s form text parts = spot.Skipped
behind (spot.Only n) s form text parts = spot.Skipped
behind (spot.Each n) s form text parts = spot.Each n
behind spot.ConstrainedMark s form text parts = spot.Only need.Range
behind (spot.Listed n) s form text parts = spot.Listed n
behind spot.Association s form text parts = spot.Only need.Value
behind spot.Choices s form text parts = spot.Choices
behind spot.PhysicalValue s form text parts = spot.Unit
behind spot.Unit s form text parts = spot.Skipped
behind spot.Head s form text parts = spot.Pieces (head_seen (kind_of form) s text)
behind (spot.Pieces p) s form text parts = spot.Pieces (piece_seen (kind_of form) s p parts)

-- ---- the first refusal

abbrev pub finder : Sight → Finder Form Spot Refused
finder s = record {
  answer = λ at form text place parts. refused_node at s form text place parts;
  down = λ at form text place parts. inside (kind_of form) at form parts;
  along = λ at form text place parts. behind at s form text parts;
}

abbrev pub need_of : Want → Need
need_of (want.Value t) = need.Value
need_of (want.Range t) = need.Range
need_of (want.DiscreteRange t) = need.DiscreteRange
need_of (want.Choice t) = need.Choice
need_of (want.Mark t) = need.Mark

abbrev pub first_refusal : Sight → Want → Forest Form → Option Refused
first_refusal s w tree = first_found (finder s) (spot.Only (need_of w)) tree
