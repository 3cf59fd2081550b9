-- Where arrays need bounds: signals, variables, ports and elements have some. And in text that is written out again elsewhere, an operand of a
-- constrained array type has the length of its type, so that it may be qualified there. (IEEE 1076, object declarations; array types; records.)
use Rattle.std.specs.Prelude.{Bool, List, None, Option, Some, [], false, if◌then◌else◌, length, map, not, suc, zero, ℕ, ◌&&◌, ◌++◌, ◌+◌, ◌==◌, ◌∷◌}
use Rattle.vd_bytes.specs.declared.answers.Refused.{Refused}
use Rattle.vd_bytes.specs.declared.places.Place.{Place}
use Rattle.vd_composites.specs.Ranges.{length_of}
use Rattle.vd_composites.specs.declared.ranges.Bounds.{Bounds}
use Rattle.vd_environments.specs.Environments.{Env, Indicated}
use Rattle.vd_forest.specs.Forest.{Forest, more, nothing, skipped}
use Rattle.vd_forms.specs.declared.form.Form.{Form}
use Rattle.vd_meaning.specs.Brackets.{positional_count}
use Rattle.vd_meaning.specs.Kinds.{kind}
use Rattle.vd_meaning.specs.Meanings.{meanings}
use Rattle.vd_meaning.specs.Names.{number_or}
use Rattle.vd_meaning.specs.Tables.{FunctionRole, Role, followed, is_brought, role_of}
use Rattle.vd_resolved.specs.declared.node.Resolved.{Resolved}
use Rattle.vd_value_rules.specs.Aggregates.{choices_of_elements, has_others_element}
use Rattle.vd_value_rules.specs.Choices.{are_all_got, early_bounds, is_array, place_at, those_got}
use Rattle.vd_value_rules.specs.Designs.{Design, class_of, is_2019}
use Rattle.vd_value_rules.specs.Judging.{refused_if}
use Rattle.vd_value_rules.specs.Knowledge.{at_mark, indicated, parts_at}
use Rattle.vd_value_rules.specs.Lengths.{Shaping, nth_shaping, shapings, static_length}
use Rattle.vd_value_rules.specs.Standings.{State, is_bounded_indicated, is_copied_here, is_one_element, is_operator_kind}
use Rattle.vd_forms.specs.declared.form.Form.TheVariants as form

-- ---- 410: an unconstrained array

abbrev pub has_no_bounds : Design → State → ℕ → Forest Resolved → Bool
has_no_bounds d s n parts = not (is_bounded_indicated (indicated d false s.known (parts_at n parts)))

-- by the number of the subtype indication, at the node itself, at the first of its identifiers, or at the mark
abbrev pub unconstrained : Form → Design → State → Place → Forest Resolved → List Refused
unconstrained form.SignalDeclaration d s place parts = refused_if (has_no_bounds d s 1 parts) place 410
unconstrained form.VariableDeclaration d s place parts = refused_if (has_no_bounds d s 1 parts) place 410
unconstrained form.PortDeclaration d s place parts = refused_if (has_no_bounds d s 3 parts) (place_at 0 (parts_at 1 parts)) 410
unconstrained form.RecordElement d s place parts = refused_if (has_no_bounds d s 1 parts) (place_at 0 (parts_at 0 parts)) 410
unconstrained form.ArrayType d s place parts = refused_if (has_no_bounds d s 1 parts) (place_at 1 parts) 410
unconstrained _ d s place parts = []

-- ---- 410 in revision 2019: operands and selectors of a constrained array type

-- how many elements an aggregate gives: one for each position, and those of its choices
abbrev pub sum_of_lengths : List Bounds → ℕ
sum_of_lengths [] = 0
sum_of_lengths (b ∷ bs) = length_of b + sum_of_lengths bs

abbrev pub elements_given : Design → Env → Forest Resolved → Option ℕ
elements_given d e elements =
    let gs = map early_bounds (choices_of_elements d e elements) in
    if are_all_got gs && not (has_others_element elements) then Some (positional_count (meanings d.table elements) + sum_of_lengths (those_got gs)) else None

pub data Written : Type 0 where
  WithLength : (length : Option ℕ) → Written
  NotAsked : Written

abbrev pub written_aggregate : Design → State → Forest Resolved → Written
written_aggregate d s parts = if is_one_element (meanings d.table parts) then NotAsked else WithLength (elements_given d s.known.env parts)

-- a literal, an aggregate or a concatenation, with its length
abbrev pub written_of : Form → Design → State → Option ℕ → Forest Resolved → Written
written_of form.Quoted d s length parts = WithLength length
written_of form.Bits d s length parts = WithLength length
written_of form.Concatenate d s length parts = WithLength length
written_of form.Aggregate d s length parts = written_aggregate d s parts
written_of _ d s length parts = NotAsked

abbrev pub same_length : Option ℕ → Option ℕ → Bool
same_length (Some m) (Some n) = m == n
same_length _ _ = false

-- of a type with bounds, whose length is known where these are locally static
abbrev pub differs_from_type : Indicated → Written → Bool
differs_from_type i NotAsked = false
differs_from_type i (WithLength length) = is_array i.subtype && is_bounded_indicated i && not (same_length length (static_length i))

abbrev pub is_indefinite : Design → State → Resolved → List Shaping → Forest Resolved → Bool
is_indefinite d s n xs parts = differs_from_type (at_mark n.mark s.known.env) (written_of n.form d s (nth_shaping 0 xs).shaped.length parts)

-- each of some operands, so many from the first on
abbrev pub indefinite : ℕ → Design → State → Forest Resolved → List Refused
indefinite count d s nothing = []
indefinite zero d s (more n text place parts next) = []
indefinite (suc count) d s (more n text place parts next) =
    refused_if (is_indefinite d s n (shapings d s.known (more n text place parts nothing)) parts) place 410 ++ indefinite count d s next

-- the arguments of a call of an operator by its symbol, which stand alone or behind `=>`
abbrev pub argument_of : Form → Forest Resolved → Forest Resolved → Forest Resolved
argument_of form.Association whole parts = skipped 1 parts
argument_of _ whole parts = whole

abbrev pub indefinite_arguments : Design → State → Forest Resolved → List Refused
indefinite_arguments d s nothing = []
indefinite_arguments d s (more n text place parts next) =
    indefinite 1 d s (argument_of n.form (more n text place parts nothing) parts) ++ indefinite_arguments d s next

abbrev pub is_operator_called : Role → Design → ℕ → Bool
is_operator_called FunctionRole d f = is_brought (class_of d (followed d.table f))
is_operator_called _ d f = false

-- the operands of an operator, and the selector of a statement
abbrev pub operands_of : Form → Design → State → Resolved → Forest Resolved → List Refused
operands_of form.CaseStatement d s n parts = indefinite 1 d s (skipped 1 parts)
operands_of form.SelectedSignalAssignment d s n parts = indefinite 1 d s parts
operands_of form.SelectedVariableAssignment d s n parts = indefinite 1 d s parts
operands_of form.CaseGenerate d s n parts = indefinite 1 d s parts
operands_of form.Arguments d s n parts =
    if is_operator_called (role_of d.table n.declaration) d (number_or n.declaration) then indefinite_arguments d s parts else []
operands_of f d s n parts = if is_operator_kind (kind f) then indefinite 2 d s parts else []

-- 410 of declarations, and of what is written in text that is copied
abbrev pub broken_bounds : Design → State → Resolved → Place → Forest Resolved → List Refused
broken_bounds d s n place parts =
    unconstrained n.form d s place parts ++ (if is_2019 d.revision && is_copied_here s then operands_of n.form d s n parts else [])
