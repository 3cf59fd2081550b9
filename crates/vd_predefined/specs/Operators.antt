-- The operators that a type brings with it, and the declarations that they are.
-- The operands of these operators are parameters `l` and `r`. All operators of a type share them: one pair of its own type, one of the
-- type of its elements where it is an array type, and one of INTEGER where there are operators with such an operand. Each pair stands
-- in a region of its own, in which nothing looks.
use Rattle.std.specs.Prelude.{ℕ, ◌==◌, ◌||◌, Bool, true, false, List, [], ◌∷◌, length, Option, Some, None, codes, if◌then◌else◌}
use Rattle.std.specs.Option.{unwrap_or}
use Rattle.vd_declarations.specs.declared.classes.Class.{Class}
use Rattle.vd_declarations.specs.declared.classes.Class.TheVariants as class
use Rattle.vd_declarations.specs.declared.declarations.Declaration.{Declaration}
use Rattle.vd_regions.specs.Scopes.{Scopes, declaration_at}
use Rattle.vd_predefined.specs.declared.operators.Group.{Group}
use Rattle.vd_predefined.specs.declared.operators.Operand.{Operand}
use Rattle.vd_predefined.specs.declared.operators.Operand.TheVariants as operand
use Rattle.vd_predefined.specs.declared.operators.Outcome.{Outcome}
use Rattle.vd_predefined.specs.declared.operators.Outcome.TheVariants as outcome
use Rattle.vd_predefined.specs.declared.numbers.TheConstants.{BOOLEAN, BIT, INTEGER}
use Rattle.vd_predefined.specs.Lines.{OperatorLine}
use Rattle.vd_predefined.specs.Table.{operators_in, groups_of_enumerations, groups_of_others, groups_of_logic_arrays, groups_of_discrete_arrays, groups_of_other_arrays}
use Rattle.vd_predefined.specs.declared.operands.Pair.{Pair}
use Rattle.vd_predefined.specs.declared.operands.Operands.{Operands}
use Rattle.vd_predefined.specs.Entries.{declared, with_entry, with_region}

-- ---- operands

-- a region with `l` alone
abbrev pub with_left : Scopes → ℕ → ℕ → Scopes
with_left s region t = with_entry (with_region s region) (length s.regions) (declared class.Parameter (codes "l") (Some t) [])

-- and with `r`
abbrev pub with_pair : Scopes → ℕ → ℕ → Scopes
with_pair s region t = with_entry (with_left s region t) (length s.regions) (declared class.Parameter (codes "r") (Some t) [])

abbrev pub pair_of : Scopes → ℕ → ℕ → Pair
pair_of s region t = record { left = length s.entered; right = length (with_left s region t).entered }

-- a pair where there is a type
abbrev pub with_pair_of : Scopes → ℕ → Option ℕ → Scopes
with_pair_of s region None = s
with_pair_of s region (Some t) = with_pair s region t

-- where there is none, other operands stand for it
abbrev pub pair_or : Scopes → ℕ → Option ℕ → Pair → Pair
pair_or s region None other = other
pair_or s region (Some t) other = pair_of s region t

-- the pairs of a type, of the type of its elements, and of INTEGER
abbrev pub with_operands : Scopes → ℕ → ℕ → Option ℕ → Scopes
with_operands s region own element = with_pair (with_pair_of (with_pair s region own) region element) region INTEGER

abbrev pub operands_of : Scopes → ℕ → ℕ → Option ℕ → Operands
operands_of s region own element = record {
  own_type = own;
  element_type = unwrap_or element own;
  own = pair_of s region own;
  element = pair_or (with_pair s region own) region element (pair_of s region own);
  integer = pair_of (with_pair_of (with_pair s region own) region element) region INTEGER;
}

abbrev pub pair_at : Operands → Operand → Pair
pair_at o operand.Own = o.own
pair_at o operand.Element = o.element
pair_at o operand.Integer = o.integer

abbrev pub result_type : Operands → Outcome → ℕ
result_type o outcome.Own = o.own_type
result_type o outcome.Element = o.element_type
result_type o outcome.Boolean = BOOLEAN

-- ---- operators

abbrev pub right_operand : Operands → Option Operand → List ℕ
right_operand o None = []
right_operand o (Some operand) = (pair_at o operand).right ∷ []

abbrev pub operator_of : Class → Operands → OperatorLine → Declaration
operator_of c o operator =
    declared c operator.name (Some (result_type o operator.result)) ((pair_at o operator.left).left ∷ right_operand o operator.right)

abbrev pub with_group : Scopes → ℕ → Class → Operands → List OperatorLine → Scopes
with_group s region c o [] = s
with_group s region c o (operator ∷ operators) = with_group (with_entry s region (operator_of c o operator)) region c o operators

abbrev pub with_groups : Scopes → ℕ → Class → Operands → List Group → Scopes
with_groups s region c o [] = s
with_groups s region c o (group ∷ groups) = with_groups (with_group s region c o (operators_in group)) region c o groups

-- operands, and then operators of some groups
abbrev pub with_operators : Scopes → ℕ → Class → ℕ → Option ℕ → List Group → Scopes
with_operators s region c own element groups =
    with_groups (with_operands s region own element) region c (operands_of s region own element) groups

-- ---- the operators that the types of users bring with them

-- scalars of a discrete type: enumerations, and INTEGER
abbrev pub is_discrete : Class → Bool
is_discrete class.EnumerationType = true
is_discrete class.IntegerType = true
is_discrete _ = false

abbrev pub groups_of_arrays : Scopes → ℕ → List Group
groups_of_arrays s element =
    if (element == BIT) || (element == BOOLEAN) then groups_of_logic_arrays
    else (if is_discrete (declaration_at s element).class then groups_of_discrete_arrays else groups_of_other_arrays)

-- of a type of this class
abbrev pub with_operators_of : Scopes → ℕ → ℕ → Class → Scopes
with_operators_of s region own class.EnumerationType = with_operators s region class.PredefinedOperator own None groups_of_enumerations
with_operators_of s region own (class.ArrayType index element element_mark) =
    with_operators s region class.PredefinedOperator own (Some element) (groups_of_arrays s element)
with_operators_of s region own class.RecordType = with_operators s region class.PredefinedOperator own None groups_of_others
with_operators_of s region own class.GenericType = with_operators s region class.PredefinedOperator own None groups_of_others
with_operators_of s region own _ = s
