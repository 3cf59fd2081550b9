-- Trees that passes make, in front of other trees.
use Rattle.std.specs.Prelude.{ℕ, List, [], Option, Some, None}
use Rattle.vd_bytes.specs.declared.places.Place.{Place}
use Rattle.vd_declarations.specs.declared.declarations.Declaration.{Declaration}
use Rattle.vd_forest.specs.Forest.{Forest, nothing, more}
use Rattle.vd_forms.specs.declared.form.Form.{Form}
use Rattle.vd_forms.specs.declared.form.Form.TheVariants as form
use Rattle.vd_resolved.specs.declared.node.Resolved.{Resolved}
use Rattle.vd_notes.specs.declared.noted.Note.TheVariants as note
use Rattle.vd_notes.specs.declared.noted.Noted.{Noted}

abbrev pub resolved : Form → Option ℕ → Option ℕ → ℕ → Resolved
resolved f declaration mark position = record { form = f; declaration = declaration; mark = mark; position = position }

-- a node that needs no note
abbrev pub noted : Resolved → Noted
noted node = record { node = node; note = note.Nothing }

module _ {G : Type 0} (bare : Resolved → G) where
  abbrev pub absent : Place → Forest G → Forest G
  absent place next = more (bare (resolved form.Absent None None 0)) [] place nothing next

  abbrev pub word : List ℕ → Option ℕ → Option ℕ → Place → Forest G → Forest G
  word text declaration mark place next = more (bare (resolved form.Identifier declaration mark 0)) text place nothing next

  abbrev pub letter : List ℕ → ℕ → ℕ → ℕ → Place → Forest G → Forest G
  letter character literal mark position place next = more (bare (resolved form.Letter (Some literal) (Some mark) position)) character place nothing next

  abbrev pub number : List ℕ → ℕ → Place → Forest G → Forest G
  number digits mark place next = more (bare (resolved form.Number None (Some mark) 0)) digits place nothing next

  -- the name of an object, as an expression of its type
  abbrev pub name : ℕ → Declaration → Place → Forest G → Forest G
  name d declaration place next =
      more (bare (resolved form.Name None declaration.mark 0)) [] place (word declaration.name (Some d) declaration.mark place nothing) next

  -- the name of a type or subtype, where a mark stands: its number stands at the whole
  abbrev pub mark_name : ℕ → Declaration → Place → Forest G → Forest G
  mark_name d declaration place next =
      more (bare (resolved form.SelectedName (Some d) None 0)) [] place (word declaration.name None None place nothing) next

  abbrev pub brackets : ℕ → Option ℕ → Place → Forest G → Forest G
  brackets d mark place operands = more (bare (resolved form.Arguments (Some d) mark 0)) [] place operands nothing

  -- a call of a function by its name
  abbrev pub call : ℕ → Declaration → Place → Forest G → Forest G → Forest G
  call d function place operands next =
      more (bare (resolved form.Name None function.mark 0)) [] place
      (word function.name (Some d) None place (brackets d function.mark place operands)) next
