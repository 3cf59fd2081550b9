-- The declarations of a design as a table, and what their classes and types are to a meaning.
use Rattle.std.specs.Prelude.{ℕ, nat_lt, ◌==◌, ◌||◌, Bool, true, false, List, [], ◌∷◌, ◌++◌, map, Option, Some, None, slice_index_or, if◌then◌else◌}
use Rattle.vd_trees.specs.declared.revision.Revision.{Revision}
use Rattle.vd_trees.specs.declared.revision.Revision.TheVariants.{V2019, V1993}
use Rattle.vd_declarations.specs.declared.classes.Class.{Class}
use Rattle.vd_declarations.specs.declared.classes.Class.TheVariants as class
use Rattle.vd_declarations.specs.declared.classes.Made.TheVariants.{Written}
use Rattle.vd_declarations.specs.declared.declarations.Declaration.{Declaration}
use Rattle.vd_forest.specs.Forest.{no_place}
use Rattle.vd_vectors.specs.declared.logics.LogicType.{LogicType}
use Rattle.vd_vectors.specs.declared.logics.LogicType.TheVariants.{TwoValued, NineValued}
use Rattle.vd_predefined.specs.declared.numbers.TheConstants.{BOOLEAN, BIT, INTEGER, TIME, STD_ULOGIC, STD_ULOGIC_VECTOR, STD_LOGIC_VECTOR}

-- Each declaration of a design by its number; those that no file has come first, and are so many.
pub record Table : Type 0 where
  pub declared : ℕ → Declaration
  pub given : ℕ

abbrev pub no_declaration : Declaration
no_declaration =
    record { class = class.Label; name = []; mark = None; parameters = []; generics = []; inside = None; place = no_place; made = Written; wanted = [] }

-- how many declarations are given
abbrev pub given_count : Revision → ℕ
given_count V2019 = 463
given_count V1993 = 387

abbrev pub table : Revision → List Declaration → Table
table r ds = record { declared = λ n. slice_index_or ds n no_declaration; given = given_count r }

-- ---- what a name names

pub data Role : Type 0 where
  ConstantRole : Role
  VariableRole : Role
  SignalRole : Role
  LiteralRole : Role
  FunctionRole : Role
  MarkRole : Role
  ElementRole : Role
  NoRole : Role

abbrev pub role : Class → Role
role class.Constant = ConstantRole
role class.GenericConstant = ConstantRole
role class.Parameter = ConstantRole
role class.LoopParameter = ConstantRole
role class.GenerateParameter = ConstantRole
role class.Variable = VariableRole
role class.Signal = SignalRole
role class.Port = SignalRole
role class.EnumerationLiteral = LiteralRole
role class.Function = FunctionRole
role class.GenericFunction = FunctionRole
role class.InstanceFunction = FunctionRole
role (class.ActualFunction actual) = FunctionRole
role class.PredefinedOperator = FunctionRole
role class.EnumerationType = MarkRole
role class.IntegerType = MarkRole
role class.PhysicalType = MarkRole
role (class.ArrayType index element element_mark) = MarkRole
role class.RecordType = MarkRole
role class.GenericType = MarkRole
role (class.Subtype mark) = MarkRole
role class.RecordElement = ElementRole
role _ = NoRole

abbrev pub role_of : Table → Option ℕ → Role
role_of t None = NoRole
role_of t (Some n) = role (t.declared n).class

-- ---- functions and operators

-- a function that is a generic is its actual in an instance
abbrev pub actual_of : Class → ℕ → ℕ
actual_of (class.ActualFunction actual) n = actual
actual_of _ n = n

abbrev pub followed : Table → ℕ → ℕ
followed t n = actual_of (t.declared n).class n

-- an operator that a type brings with it
abbrev pub is_brought : Class → Bool
is_brought class.PredefinedOperator = true
is_brought _ = false

-- a type that is a generic is its actual in an instance
abbrev pub mark_in : Class → ℕ → ℕ
mark_in (class.Subtype mark) n = mark
mark_in _ n = n

abbrev pub actual_mark : Table → ℕ → ℕ
actual_mark t n = mark_in (t.declared n).class n

-- what has its meaning from the language, and not from a text
abbrev pub is_predefined : Table → ℕ → Bool
is_predefined t n = nat_lt n t.given || is_brought (t.declared n).class

-- What a package with generics declares, its generics first, and in the same order what an instance of it declares.
abbrev pub declared_in : Table → ℕ → List ℕ
declared_in t n = (t.declared n).generics ++ (t.declared n).parameters

abbrev pub pairs : List ℕ → List ℕ → List (ℕ × ℕ)
pairs (m ∷ ms) (n ∷ ns) = (m, n) ∷ pairs ms ns
pairs _ _ = []

abbrev pub copies_in : Table → (generic instance : ℕ) → List (ℕ × ℕ)
copies_in t generic instance = pairs (declared_in t generic) (declared_in t instance)

-- the vector types of IEEE 1164
abbrev pub is_vector : ℕ → Bool
is_vector n = (n == STD_ULOGIC_VECTOR) || (n == STD_LOGIC_VECTOR)

-- the types of its parameters
abbrev pub operand_types : Table → ℕ → List (Option ℕ)
operand_types t n = map (λ p. (t.declared p).mark) (t.declared n).parameters

-- ---- sorts of types, as operators tell them apart

pub data Sort : Type 0 where
  IntegerSort : Sort
  TimeSort : Sort
  -- BIT, BOOLEAN and STD_ULOGIC, and arrays of them
  LogicSort : (of : LogicType) → Sort
  LogicsSort : (of : LogicType) → Sort
  OtherSort : Sort

abbrev pub logic_type : ℕ → Option LogicType
logic_type n = if (n == BIT) || (n == BOOLEAN) then Some TwoValued else (if n == STD_ULOGIC then Some NineValued else None)

abbrev pub sort_of_elements : Option LogicType → Sort
sort_of_elements None = OtherSort
sort_of_elements (Some of) = LogicsSort of

abbrev pub sort_of_composite : Class → Sort
sort_of_composite (class.ArrayType index element element_mark) = sort_of_elements (logic_type element)
sort_of_composite _ = OtherSort

abbrev pub sort_of_scalar : Option LogicType → ℕ → Class → Sort
sort_of_scalar (Some of) n c = LogicSort of
sort_of_scalar None n c = if n == INTEGER then IntegerSort else (if n == TIME then TimeSort else sort_of_composite c)

abbrev pub sort_of : Table → Option ℕ → Sort
sort_of t None = OtherSort
sort_of t (Some n) = sort_of_scalar (logic_type n) n (t.declared n).class

abbrev pub same_type : Option ℕ → Option ℕ → Bool
same_type (Some m) (Some n) = m == n
same_type _ _ = false
