-- Statements that are given several values, of which one is assigned or returned: what each is with one value alone. (IEEE 1076, signal assignment statement;
-- variable assignment statement; return statement.)
use Rattle.std.specs.Prelude.{ℕ, Bool, true, false, if◌then◌else◌, [], Option, Some, None}
use Rattle.vd_bytes.specs.declared.places.Place.{Place}
use Rattle.vd_forest.specs.Forest.{Forest, nothing, more, next_of, with_next}
use Rattle.vd_forms.specs.declared.form.Form.{Form}
use Rattle.vd_forms.specs.declared.form.Form.TheVariants as form
use Rattle.vd_notes.specs.Makers.{noted, resolved}
use Rattle.vd_notes.specs.declared.noted.Noted.{Noted}
use Rattle.vd_lowering.specs.declared.assignments.Taking.{Taking}
use Rattle.vd_lowering.specs.declared.assignments.Taking.TheVariants as takes

-- a node that stands for no node of the source
abbrev pub bare : Form → Noted
bare f = noted (resolved f None None 0)

abbrev pub null_statement : Place → Forest Noted → Forest Noted
null_statement place next = more (bare form.NullStatement) [] place nothing next

-- ---- the value among the parts of a statement

-- what stands behind the target, or behind the target and the delay, or behind nothing
abbrev pub values_in : Taking → Forest Noted → Forest Noted
values_in takes.Return parts = parts
values_in takes.Variable parts = next_of parts
values_in takes.Signal parts = next_of (next_of parts)

-- the parts in front of it, and then another value
abbrev pub with_value : Taking → Forest Noted → Forest Noted → Forest Noted
with_value takes.Return parts value = value
with_value takes.Variable parts value = with_next parts value
with_value takes.Signal parts value = with_next parts (with_next (next_of parts) value)

-- ---- the statement with one value

-- `unaffected` is no value: the signal keeps what it has and what it was to have
abbrev pub is_value : Form → Bool
is_value form.Unaffected = false
is_value _ = true

abbrev pub has_value : Forest Noted → Bool
has_value nothing = false
has_value (more n text place parts next) = is_value n.node.form

-- The statement has this node and place, and these parts or more. It takes the first of some values, or does nothing where there is none.
module _ (to : Taking) (statement : Noted) (place : Place) (parts : Forest Noted) where
  abbrev pub assigned : Forest Noted → Forest Noted
  assigned values =
      if has_value values then more statement [] place (with_value to parts (with_next values nothing)) nothing else null_statement place nothing

  -- of a value and what it stands under, which is a condition or choices: that, and then the statement as a list of statements
  abbrev pub branch : Forest Noted → Forest Noted → Forest Noted
  branch values next = with_next (next_of values) (more (bare form.Statements) [] place (assigned values) next)
