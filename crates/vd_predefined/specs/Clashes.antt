-- Where the operators of a type can't be entered: the declaration in the way of the first operand or operator that may not stand where
-- it would. It stands before in the region of the operators, or it is one of those operators. (IEEE 1076, visibility: homographs)
use Rattle.std.specs.Prelude.{ℕ, List, [], ◌∷◌, length, Option, Some, None, codes}
use Rattle.std.specs.Option.{option_or}
use Rattle.vd_declarations.specs.declared.classes.Class.{Class}
use Rattle.vd_declarations.specs.declared.classes.Class.TheVariants as class
use Rattle.vd_regions.specs.Scopes.{Scopes}
use Rattle.vd_regions.specs.Homographs.{homograph}
use Rattle.vd_predefined.specs.declared.operators.Group.{Group}
use Rattle.vd_predefined.specs.declared.numbers.TheConstants.{INTEGER}
use Rattle.vd_predefined.specs.declared.operands.Operands.{Operands}
use Rattle.vd_predefined.specs.Lines.{OperatorLine}
use Rattle.vd_predefined.specs.Table.{operators_in, groups_of_enumerations, groups_of_others}
use Rattle.vd_predefined.specs.Entries.{declared, with_entry, with_region}
use Rattle.vd_predefined.specs.Operators.{with_left, with_pair, with_pair_of, with_operands, operands_of, operator_of, with_group, groups_of_arrays}

-- ---- operands

-- There is none where each declaration stands in a region that there was before.
abbrev pub clash_of_pair : Scopes → ℕ → ℕ → Option ℕ
clash_of_pair s region t =
    option_or (homograph (with_region s region) (length s.regions) (declared class.Parameter (codes "l") (Some t) []))
    (homograph (with_left s region t) (length s.regions) (declared class.Parameter (codes "r") (Some t) []))

abbrev pub clash_of_pair_of : Scopes → ℕ → Option ℕ → Option ℕ
clash_of_pair_of s region None = None
clash_of_pair_of s region (Some t) = clash_of_pair s region t

abbrev pub clash_of_operands : Scopes → ℕ → ℕ → Option ℕ → Option ℕ
clash_of_operands s region own element =
    option_or (clash_of_pair s region own)
    (option_or (clash_of_pair_of (with_pair s region own) region element)
    (clash_of_pair (with_pair_of (with_pair s region own) region element) region INTEGER))

-- ---- operators

abbrev pub clash_of_group : Scopes → ℕ → Class → Operands → List OperatorLine → Option ℕ
clash_of_group s region c o [] = None
clash_of_group s region c o (operator ∷ operators) =
    option_or (homograph s region (operator_of c o operator))
    (clash_of_group (with_entry s region (operator_of c o operator)) region c o operators)

abbrev pub clash_of_groups : Scopes → ℕ → Class → Operands → List Group → Option ℕ
clash_of_groups s region c o [] = None
clash_of_groups s region c o (group ∷ groups) =
    option_or (clash_of_group s region c o (operators_in group))
    (clash_of_groups (with_group s region c o (operators_in group)) region c o groups)

abbrev pub clash_of_operators : Scopes → ℕ → Class → ℕ → Option ℕ → List Group → Option ℕ
clash_of_operators s region c own element groups =
    option_or (clash_of_operands s region own element)
    (clash_of_groups (with_operands s region own element) region c (operands_of s region own element) groups)

-- of a type of this class
abbrev pub clash_of_operators_of : Scopes → ℕ → ℕ → Class → Option ℕ
clash_of_operators_of s region own class.EnumerationType = clash_of_operators s region class.PredefinedOperator own None groups_of_enumerations
clash_of_operators_of s region own (class.ArrayType index element element_mark) =
    clash_of_operators s region class.PredefinedOperator own (Some element) (groups_of_arrays s element)
clash_of_operators_of s region own class.RecordType = clash_of_operators s region class.PredefinedOperator own None groups_of_others
clash_of_operators_of s region own class.GenericType = clash_of_operators s region class.PredefinedOperator own None groups_of_others
clash_of_operators_of s region own _ = None
