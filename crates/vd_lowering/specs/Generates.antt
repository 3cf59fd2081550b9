-- Generates without alternatives: one generate for each alternative, with a condition that says that none of those in front of it is taken.
-- (IEEE 1076, generate statements.)
use Rattle.std.specs.Prelude.{ℕ, if◌then◌else◌, List, [], None, Some}
use Rattle.vd_bytes.specs.declared.places.Place.{Place}
use Rattle.vd_forest.specs.Forest.{Forest, nothing, more, joined, next_of, parts_of, skipped, text_of, with_next}
use Rattle.vd_forest.specs.Store.{Holds}
use Rattle.vd_forms.specs.declared.form.Form.{Form}
use Rattle.vd_forms.specs.declared.form.Form.TheVariants as form
use Rattle.vd_forms.specs.Forms.{same_form}
use Rattle.vd_notes.specs.Makers.{noted, resolved}
use Rattle.vd_notes.specs.declared.noted.Note.{Note}
use Rattle.vd_notes.specs.declared.noted.Note.TheVariants as note
use Rattle.vd_notes.specs.declared.noted.Noted.{Noted}
use Rattle.vd_rewriting.specs.Rewriting.{Pass, rewritten}
use Rattle.vd_lowering.specs.Conditions.{alone, any_choice, compared, made, negated, paired}
use Rattle.vd_lowering.specs.declared.operators.TypeRow.{TypeRow}

abbrev pub not_there : Place → Forest Noted → Forest Noted
not_there place next = made form.Absent None None place nothing next

-- ---- branches. Each has its condition, or that there is none of its own, and its body; the note is that of the alternative

abbrev pub branch : Note → Place → Forest Noted → Forest Noted → Forest Noted → Forest Noted
branch note place condition body rest =
    more (record { node = resolved form.ElsifGenerate None None 0; note = note }) [] place (with_next condition (with_next body nothing)) rest

-- ---- those of an `if` generate: condition, body, branches behind them, and the body of the last one, which has no condition. One alternative stays

abbrev pub last_branch : Place → Forest Noted → Forest Noted
last_branch place nothing = nothing
last_branch place (more n text p parts next) =
    if same_form n.node.form form.Absent then nothing else branch n.note place (not_there place nothing) (more n text p parts next) nothing

abbrev pub first_branch : Place → Forest Noted → Forest Noted → Forest Noted
first_branch place parts nothing = nothing
first_branch place parts (more n text p inner next) = branch note.Nothing place parts (next_of parts) (more n text p inner next)

abbrev pub if_branches : Place → Forest Noted → Forest Noted
if_branches place parts = first_branch place parts (joined (parts_of (skipped 2 parts)) (last_branch place (skipped 3 parts)))

-- ---- what isn't a condition

abbrev pub empty_body : Place → Forest Noted
empty_body place = made form.GenerateBody None None place (not_there place nothing) nothing

-- the condition of a branch, where it has one
abbrev pub present : Forest Noted → Forest Noted
present nothing = nothing
present (more n text p parts next) = if same_form n.node.form form.Absent then nothing else more n text p parts nothing

-- a label of its own has the text of the first one
abbrev pub label_by : Note → List ℕ → Place → Forest Noted → Forest Noted
label_by (note.Alternative number) name place label = more (noted (resolved form.Identifier (Some number) None 0)) name place nothing nothing
label_by _ name place label = label

-- no branches behind it, nothing else, and no name at the end
abbrev pub ending : Place → Forest Noted
ending place = made form.ElsifGenerates None None place nothing (not_there place (not_there place nothing))

abbrev pub generate : Place → Forest Noted → Forest Noted → Forest Noted
generate place condition body = made form.IfGenerate None None place (with_next condition (with_next body (ending place))) nothing

module _ (rows : List TypeRow) where
  -- ---- those of a `case` generate: selector, and alternatives with choices and bodies. `others` is no condition of its own

  abbrev pub chosen : Place → Forest Noted → Forest Noted → Forest Noted
  chosen place selector nothing = nothing
  chosen place selector (more n text p parts next) =
      if same_form n.node.form form.Others then not_there place nothing else any_choice rows place selector nothing parts

  abbrev pub case_branch : Place → Forest Noted → Forest Noted → Forest Noted → Forest Noted
  case_branch place selector nothing rest = rest
  case_branch place selector (more n text p parts next) rest = branch n.note place (chosen place selector parts) (next_of parts) rest

  abbrev pub all_branches : Place → Forest Noted → Forest Noted → Forest Noted
  all_branches place selector nothing = nothing
  all_branches place selector (more n text p parts next) = case_branch place selector (more n text p parts nothing) (all_branches place selector next)

  -- What stands behind no condition at all stands behind one that always holds, which evaluates the selector as the choices would.
  abbrev pub always : Place → Forest Noted → Forest Noted
  always place selector = compared rows form.Equal place selector selector

  abbrev pub with_condition : Place → Forest Noted → Forest Noted → Forest Noted
  with_condition place selector nothing = nothing
  with_condition place selector (more n text p parts next) =
      if same_form n.node.form form.Absent then with_next (always place selector) next else more n text p parts next

  abbrev pub from_first : Place → Forest Noted → Forest Noted → Forest Noted
  from_first place selector nothing = branch note.Nothing place (always place selector) (empty_body place) nothing
  from_first place selector (more n text p parts next) = more n [] p (with_condition place selector parts) next

  abbrev pub case_branches : Place → Forest Noted → Forest Noted
  case_branches place parts = from_first place (alone parts) (all_branches place (alone parts) (parts_of (next_of parts)))

  -- ---- those of a statement, and none of what stays

  abbrev pub branches_by : Form → Place → Forest Noted → Forest Noted
  branches_by form.IfGenerate place parts = if_branches place parts
  branches_by form.CaseGenerate place parts = case_branches place parts
  branches_by _ place parts = nothing

  abbrev pub branches : Place → Forest Noted → Forest Noted
  branches place nothing = nothing
  branches place (more n text p parts next) = branches_by n.node.form place parts

  -- ---- one generate for each

  -- what was in front isn't taken, and this one's own condition holds
  abbrev pub taken : Place → Forest Noted → Forest Noted → Forest Noted
  taken place earlier parts = paired rows form.And place earlier (present parts)

  abbrev pub one_generate : Noted → List ℕ → Place → List ℕ → Forest Noted → Forest Noted → Forest Noted → Forest Noted → Forest Noted
  one_generate n text place name label earlier nothing next = next
  one_generate n text place name label earlier (more b t p parts rest) next =
      more n text place (with_next (label_by b.note name place label) (generate place (taken place earlier parts) (next_of parts))) next

  -- and behind this branch it isn't taken either
  abbrev pub not_taken : Place → Forest Noted → Forest Noted → Forest Noted
  not_taken place earlier nothing = earlier
  not_taken place earlier (more b t p parts rest) = paired rows form.And place earlier (negated rows place (present parts))

  abbrev pub all_generates : Noted → List ℕ → Place → List ℕ → Forest Noted → Forest Noted → Forest Noted → Forest Noted → Forest Noted
  all_generates n text place name label earlier nothing next = next
  all_generates n text place name label earlier (more b t p parts rest) next =
      one_generate n text place name label earlier (more b t p parts nothing)
      (all_generates n text place name label (not_taken place earlier (more b t p parts nothing)) rest next)

  -- ---- the pass

  abbrev pub split_by : Noted → List ℕ → Place → List ℕ → Forest Noted → Forest Noted → Forest Noted → Forest Noted
  split_by n text place name parts nothing next = more n text place parts next
  split_by n text place name parts (more b t p inner rest) next = all_generates n text place name parts nothing (more b t p inner rest) next

  abbrev pub generates_by : Form → Noted → List ℕ → Place → List ℕ → Forest Noted → Forest Noted → Forest Noted
  generates_by form.LabelledConcurrent n text place name parts next = split_by n text place name parts (branches place (next_of parts)) next
  generates_by _ n text place name parts next = more n text place parts next

  abbrev pub generates : Pass Noted Noted
  generates n text place parts new next = generates_by n.node.form n text place (text_of parts) new next

-- what a pass with some rows made
pub record AreGenerates (store : List (Forest Noted)) (made_number : ℕ) (from : Forest Noted) : Type 0 where
  pub rows : List TypeRow
  pub holds : Holds store made_number (rewritten (generates rows) from)
