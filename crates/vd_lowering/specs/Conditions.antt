-- Conditions that passes make of other conditions, and of choices.
use Rattle.std.specs.Prelude.{ℕ, List, [], Option, None, Some}
use Rattle.vd_bytes.specs.declared.places.Place.{Place}
use Rattle.vd_forest.specs.Forest.{Forest, nothing, more, next_of, parts_of, with_next}
use Rattle.vd_forms.specs.declared.form.Form.{Form}
use Rattle.vd_forms.specs.declared.form.Form.TheVariants as form
use Rattle.vd_notes.specs.Makers.{noted, resolved}
use Rattle.vd_notes.specs.declared.noted.Noted.{Noted}
use Rattle.vd_predefined.specs.declared.numbers.TheConstants.{BOOLEAN}
use Rattle.vd_lowering.specs.Operators.{operator_at}
use Rattle.vd_lowering.specs.declared.operators.TypeRow.{TypeRow}

-- ---- nodes

-- one that needs no note and has no text
abbrev pub made : Form → Option ℕ → Option ℕ → Place → Forest Noted → Forest Noted → Forest Noted
made f declaration mark place parts next = more (noted (resolved f declaration mark 0)) [] place parts next

-- the first tree alone
abbrev pub alone : Forest Noted → Forest Noted
alone f = with_next f nothing

-- its type
abbrev pub type_of : Forest Noted → Option ℕ
type_of nothing = None
type_of (more n text place parts next) = n.node.mark

abbrev pub boolean : Option ℕ
boolean = Some BOOLEAN

module _ (rows : List TypeRow) where
  -- ---- operators, whose result is BOOLEAN, with operands of a type

  abbrev pub operation : Form → Option ℕ → Place → Forest Noted → Forest Noted
  operation f of place operands = made f (operator_at rows f of) boolean place operands nothing

  -- where there is no condition, there is none either
  abbrev pub negated : Place → Forest Noted → Forest Noted
  negated place nothing = nothing
  negated place (more n text p parts next) = operation form.Not boolean place (more n text p parts next)

  -- two conditions, of which there may be one alone or none
  abbrev pub paired : Form → Place → Forest Noted → Forest Noted → Forest Noted
  paired f place nothing right = right
  paired f place (more n text p parts next) nothing = more n text p parts next
  paired f place (more n text p parts next) (more m t q ps rest) =
      operation f boolean place (with_next (more n text p parts next) (more m t q ps rest))

  abbrev pub compared : Form → Place → Forest Noted → Forest Noted → Forest Noted
  compared f place selector value = operation f (type_of selector) place (with_next selector value)

  -- ---- choices

  -- not below the least value, and not above the greatest one
  abbrev pub within : Place → Forest Noted → Forest Noted → Forest Noted → Forest Noted
  within place selector low high =
      operation form.And boolean place (with_next (compared form.AtLeast place selector low) (compared form.AtMost place selector high))

  -- in a range, whose bounds are the parts of its node
  abbrev pub ranged : Form → Place → Forest Noted → Forest Noted → Forest Noted
  ranged form.Descending place selector bounds = within place selector (alone (next_of bounds)) (alone bounds)
  ranged _ place selector bounds = within place selector (alone bounds) (alone (next_of bounds))

  -- where the range is that of a subtype
  abbrev pub ranged_behind : Place → Forest Noted → Forest Noted → Forest Noted
  ranged_behind place selector nothing = nothing
  ranged_behind place selector (more n text p parts next) = ranged n.node.form place selector parts

module _ (rows : List TypeRow) where
  -- A choice that names a subtype or the range of an array isn't written here: it is compared as if it were a value, which no text of 1993 may say. Where
  -- such a range is null its bounds by size would hold values that it hasn't.
  abbrev pub choice_by : Form → Place → Forest Noted → Forest Noted → Forest Noted
  choice_by form.Ascending place selector value = ranged rows form.Ascending place selector (parts_of value)
  choice_by form.Descending place selector value = ranged rows form.Descending place selector (parts_of value)
  choice_by form.DiscreteSubtype place selector value = ranged_behind rows place selector (next_of (parts_of value))
  choice_by _ place selector value = compared rows form.Equal place selector value

  -- the selector has one of some values, or has been found to have one so far
  abbrev pub any_choice : Place → Forest Noted → Forest Noted → Forest Noted → Forest Noted
  any_choice place selector found nothing = found
  any_choice place selector found (more n text p parts next) =
      any_choice place selector (paired rows form.Or place found (choice_by n.node.form place selector (more n text p parts nothing))) next
