-- Forms, by which of their parts need bounds, and which are operands.
use Rattle.std.specs.Prelude.{Bool, List, None, Option, Some, [], false, if◌then◌else◌, ℕ}
use Rattle.vd_bytes.specs.declared.answers.Refused.{Refused}
use Rattle.vd_bytes.specs.declared.places.Place.{Place}
use Rattle.vd_bound_rules.specs.declared.sorts.Indication.{Indication}
use Rattle.vd_bound_rules.specs.declared.sorts.Indication.TheVariants as indication
use Rattle.vd_bound_rules.specs.declared.sorts.Operands.{Operands}
use Rattle.vd_bound_rules.specs.declared.sorts.Operands.TheVariants as operands
use Rattle.vd_forest.specs.Forest.{Forest, skipped}
use Rattle.vd_forms.specs.declared.form.Form.{Form}
use Rattle.vd_forms.specs.declared.form.Form.TheVariants as form
use Rattle.vd_meaning.specs.Kinds.{kind}
use Rattle.vd_meaning.specs.Names.{number_or}
use Rattle.vd_meaning.specs.Tables.{FunctionRole, Role, role_of}
use Rattle.vd_resolved.specs.declared.node.Resolved.{Resolved}
use Rattle.vd_value_rules.specs.Bounds.{has_no_bounds, indefinite, indefinite_arguments, is_operator_called}
use Rattle.vd_value_rules.specs.Choices.{place_at}
use Rattle.vd_value_rules.specs.Designs.{Design}
use Rattle.vd_value_rules.specs.Judging.{refused_if}
use Rattle.vd_value_rules.specs.Knowledge.{parts_at}
use Rattle.vd_value_rules.specs.Standings.{State, is_operator_kind}

-- ---- subtype indications that need bounds

abbrev pub indication_of : Form → Indication
indication_of form.SignalDeclaration = indication.Object
indication_of form.VariableDeclaration = indication.Object
indication_of form.PortDeclaration = indication.Port
indication_of form.RecordElement = indication.Element
indication_of form.ArrayType = indication.Array
indication_of _ = indication.Other

-- the number of the indication among the parts
abbrev pub number_in : Indication → Option ℕ
number_in indication.Object = Some 1
number_in indication.Port = Some 3
number_in indication.Element = Some 1
number_in indication.Array = Some 1
number_in indication.Other = None

-- where it is refused
abbrev pub place_in : Indication → Place → Forest Resolved → Place
place_in indication.Port place parts = place_at 0 (parts_at 1 parts)
place_in indication.Element place parts = place_at 0 (parts_at 0 parts)
place_in indication.Array place parts = place_at 1 parts
place_in _ place parts = place

abbrev pub unconstrained_at : Option ℕ → Design → State → Place → Forest Resolved → List Refused
unconstrained_at None d s place parts = []
unconstrained_at (Some n) d s place parts = refused_if (has_no_bounds d s n parts) place 410

-- ---- operands

abbrev pub operands_in : Form → Operands
operands_in form.CaseStatement = operands.SecondPart
operands_in form.SelectedSignalAssignment = operands.FirstPart
operands_in form.SelectedVariableAssignment = operands.FirstPart
operands_in form.CaseGenerate = operands.FirstPart
operands_in form.Arguments = operands.InBrackets
operands_in f = if is_operator_kind (kind f) then operands.TwoParts else operands.NoPart

abbrev pub operands_as : Operands → Design → State → Resolved → Forest Resolved → List Refused
operands_as operands.FirstPart d s n parts = indefinite 1 d s parts
operands_as operands.SecondPart d s n parts = indefinite 1 d s (skipped 1 parts)
operands_as operands.TwoParts d s n parts = indefinite 2 d s parts
operands_as operands.InBrackets d s n parts =
    if is_operator_called (role_of d.table n.declaration) d (number_or n.declaration) then indefinite_arguments d s parts else []
operands_as operands.NoPart d s n parts = []

-- a function that is brought is an operator
abbrev pub called_as : Role → Bool → Bool
called_as FunctionRole is_brought = is_brought
called_as _ is_brought = false
