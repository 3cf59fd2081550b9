-- Assignments and returns with conditions as `if` statements. (IEEE 1076, conditional signal assignments; conditional variable assignments; return statement;
-- if statement.)
use Rattle.std.specs.Prelude.{ℕ, zero, suc, Bool, true, false, if◌then◌else◌, List, [], Option, Some, None}
use Rattle.vd_bytes.specs.declared.places.Place.{Place}
use Rattle.vd_forest.specs.Forest.{Forest, nothing, more, next_of, parts_of}
use Rattle.vd_forms.specs.declared.form.Form.{Form}
use Rattle.vd_forms.specs.declared.form.Form.TheVariants as form
use Rattle.vd_notes.specs.Makers.{absent, noted}
use Rattle.vd_notes.specs.declared.noted.Noted.{Noted}
use Rattle.vd_rewriting.specs.Rewriting.{Pass}
use Rattle.vd_lowering.specs.Assignments.{assigned, bare, branch, has_value, null_statement, values_in}
use Rattle.vd_lowering.specs.declared.assignments.Taking.{Taking}
use Rattle.vd_lowering.specs.declared.assignments.Taking.TheVariants as takes

-- the statements that may have conditions. Concurrent ones have them in revision 1993 too
abbrev pub taking : Form → Option Taking
taking form.SignalAssignment = Some takes.Signal
taking form.VariableAssignment = Some takes.Variable
taking form.ReturnStatement = Some takes.Return
taking _ = None

-- ---- chains: a value, its condition, and where there is an `else` the rest, which is a chain or a value alone

abbrev pub is_conditional : Form → Bool
is_conditional form.ConditionalWaveform = true
is_conditional form.GuardedWaveform = true
is_conditional form.ConditionalValue = true
is_conditional form.GuardedValue = true
is_conditional form.ConditionalReturn = true
is_conditional _ = false

abbrev pub is_chain : Forest Noted → Bool
is_chain nothing = false
is_chain (more n text place parts next) = is_conditional n.node.form

-- The value at the end of the chain that stands behind so many trees, if it has one without a condition. The rest of a chain is its third part
abbrev pub last_value : ℕ → Forest Noted → Forest Noted
last_value count nothing = nothing
last_value (suc count) (more n text place parts next) = last_value count next
last_value zero (more n text place parts next) = if is_conditional n.node.form then last_value 2 parts else more n text place parts next

-- ---- the statement that takes these values

module _ (to : Taking) (statement : Noted) (place : Place) (parts : Forest Noted) where
  -- the branch of a value and its condition
  abbrev pub elsif : Place → Forest Noted → Forest Noted → Forest Noted
  elsif link values next = more (bare form.ElsifBranch) [] link (branch to statement place parts values nothing) next

  -- the branches of all conditions of the chain that stands behind so many trees
  abbrev pub elsifs : ℕ → Forest Noted → Forest Noted
  elsifs count nothing = nothing
  elsifs (suc count) (more n text link values next) = elsifs count next
  elsifs zero (more n text link values next) = if is_conditional n.node.form then elsif link values (elsifs 2 values) else nothing

  -- what is done where no condition holds
  abbrev pub otherwise : Forest Noted → Forest Noted
  otherwise last = more (bare form.ElseBranch) [] place (assigned to statement place parts last) (absent noted place nothing)

  abbrev pub other_branches : Forest Noted → Forest Noted
  other_branches values = more (bare form.ElsifBranches) [] place (elsifs 2 values) (otherwise (last_value 2 values))

  abbrev pub conditional : Forest Noted → Forest Noted → Forest Noted
  conditional values next = more (bare form.IfStatement) [] place (branch to statement place parts values (other_branches values)) next

-- ---- the pass

abbrev pub lowered : Taking → Noted → List ℕ → Place → Forest Noted → Forest Noted → Forest Noted
lowered to n text place new next =
    if is_chain (values_in to new) then conditional to n place new (parts_of (values_in to new)) next
    else if has_value (values_in to new) then more n text place new next
    else null_statement place next

abbrev pub branched : Option Taking → Noted → List ℕ → Place → Forest Noted → Forest Noted → Forest Noted
branched None n text place new next = more n text place new next
branched (Some to) n text place new next = lowered to n text place new next

abbrev pub branches : Pass Noted Noted
branches n text place parts new next = branched (taking n.node.form) n text place new next
