-- What the forms of trees are in expressions, what declarations are in names, and what attributes there are: tables to be held beside
-- the standard. (IEEE 1076, names; expressions; predefined attributes)
use Rattle.std.specs.Prelude.{ℕ, Bool, ◌||◌, List, [], codes, if◌then◌else◌}
use Rattle.std.specs.Str.{bytes_eq}
use Rattle.vd_declarations.specs.declared.classes.Class.{Class}
use Rattle.vd_declarations.specs.declared.classes.Class.TheVariants as class
use Rattle.vd_forms.specs.declared.form.Form.{Form}
use Rattle.vd_forms.specs.declared.form.Form.TheVariants as form
use Rattle.vd_visible.specs.declared.kinds.Kind.{Kind}
use Rattle.vd_visible.specs.declared.kinds.Kind.TheVariants as kind
use Rattle.vd_visible.specs.declared.attributes.Attribute.{Attribute}
use Rattle.vd_visible.specs.declared.attributes.Attribute.TheVariants as attribute
use Rattle.vd_visible.specs.declared.roles.Role.{Role}
use Rattle.vd_visible.specs.declared.roles.Role.TheVariants as role

-- ---- operators, by their symbols with their quotation marks

abbrev pub symbol_of : Form → List ℕ
symbol_of form.Condition = codes "\"??\""
symbol_of form.Nand = codes "\"nand\""
symbol_of form.Nor = codes "\"nor\""
symbol_of form.And = codes "\"and\""
symbol_of form.Or = codes "\"or\""
symbol_of form.Xor = codes "\"xor\""
symbol_of form.Xnor = codes "\"xnor\""
symbol_of form.Equal = codes "\"=\""
symbol_of form.Unequal = codes "\"/=\""
symbol_of form.Less = codes "\"<\""
symbol_of form.AtMost = codes "\"<=\""
symbol_of form.Greater = codes "\">\""
symbol_of form.AtLeast = codes "\">=\""
symbol_of form.MatchEqual = codes "\"?=\""
symbol_of form.MatchUnequal = codes "\"?/=\""
symbol_of form.MatchLess = codes "\"?<\""
symbol_of form.MatchAtMost = codes "\"?<=\""
symbol_of form.MatchGreater = codes "\"?>\""
symbol_of form.MatchAtLeast = codes "\"?>=\""
symbol_of form.ShiftLeftLogical = codes "\"sll\""
symbol_of form.ShiftRightLogical = codes "\"srl\""
symbol_of form.ShiftLeftArithmetic = codes "\"sla\""
symbol_of form.ShiftRightArithmetic = codes "\"sra\""
symbol_of form.RotateLeft = codes "\"rol\""
symbol_of form.RotateRight = codes "\"ror\""
symbol_of form.Identity = codes "\"+\""
symbol_of form.Negation = codes "\"-\""
symbol_of form.Add = codes "\"+\""
symbol_of form.Subtract = codes "\"-\""
symbol_of form.Concatenate = codes "\"&\""
symbol_of form.Multiply = codes "\"*\""
symbol_of form.Divide = codes "\"/\""
symbol_of form.Modulo = codes "\"mod\""
symbol_of form.Remainder = codes "\"rem\""
symbol_of form.Absolute = codes "\"abs\""
symbol_of form.Not = codes "\"not\""
symbol_of form.AndReduction = codes "\"and\""
symbol_of form.OrReduction = codes "\"or\""
symbol_of form.XorReduction = codes "\"xor\""
symbol_of form.XnorReduction = codes "\"xnor\""
symbol_of form.NandReduction = codes "\"nand\""
symbol_of form.NorReduction = codes "\"nor\""
symbol_of form.Power = codes "\"**\""
symbol_of _ = []

-- ---- kinds of forms

abbrev pub kind_of : Form → Kind
kind_of form.Number = kind.Number
kind_of form.PhysicalLiteral = kind.PhysicalLiteral
kind_of form.Letter = kind.Letter
kind_of form.Quoted = kind.Quoted
kind_of form.Bits = kind.Bits
kind_of form.Aggregate = kind.Aggregate
kind_of form.Name = kind.Name
kind_of form.OperatorName = kind.OperatorName
kind_of form.Ascending = kind.Bounds
kind_of form.Descending = kind.Bounds
kind_of form.DiscreteSubtype = kind.DiscreteSubtype
kind_of form.Association = kind.Association
kind_of form.OthersAssociation = kind.OthersAssociation
kind_of form.AssociationChoices = kind.AssociationChoices
kind_of form.Identifier = kind.Identifier
kind_of form.Selection = kind.Selection
kind_of form.Arguments = kind.Arguments
kind_of form.Attribute = kind.Attribute
kind_of form.RangeAttribute = kind.RangeAttribute
kind_of form.Qualification = kind.Qualification
kind_of form.Condition = kind.Operator
kind_of form.Nand = kind.Operator
kind_of form.Nor = kind.Operator
kind_of form.And = kind.Operator
kind_of form.Or = kind.Operator
kind_of form.Xor = kind.Operator
kind_of form.Xnor = kind.Operator
kind_of form.Equal = kind.Operator
kind_of form.Unequal = kind.Operator
kind_of form.Less = kind.Operator
kind_of form.AtMost = kind.Operator
kind_of form.Greater = kind.Operator
kind_of form.AtLeast = kind.Operator
kind_of form.MatchEqual = kind.Operator
kind_of form.MatchUnequal = kind.Operator
kind_of form.MatchLess = kind.Operator
kind_of form.MatchAtMost = kind.Operator
kind_of form.MatchGreater = kind.Operator
kind_of form.MatchAtLeast = kind.Operator
kind_of form.ShiftLeftLogical = kind.Operator
kind_of form.ShiftRightLogical = kind.Operator
kind_of form.ShiftLeftArithmetic = kind.Operator
kind_of form.ShiftRightArithmetic = kind.Operator
kind_of form.RotateLeft = kind.Operator
kind_of form.RotateRight = kind.Operator
kind_of form.Identity = kind.Operator
kind_of form.Negation = kind.Operator
kind_of form.Add = kind.Operator
kind_of form.Subtract = kind.Operator
kind_of form.Concatenate = kind.Operator
kind_of form.Multiply = kind.Operator
kind_of form.Divide = kind.Operator
kind_of form.Modulo = kind.Operator
kind_of form.Remainder = kind.Operator
kind_of form.Absolute = kind.Operator
kind_of form.Not = kind.Operator
kind_of form.AndReduction = kind.Operator
kind_of form.OrReduction = kind.Operator
kind_of form.XorReduction = kind.Operator
kind_of form.XnorReduction = kind.Operator
kind_of form.NandReduction = kind.Operator
kind_of form.NorReduction = kind.Operator
kind_of form.Power = kind.Operator
kind_of _ = kind.Other

-- ---- attributes, by their names. The attribute `range` has a form of its own

abbrev pub is_either : List ℕ → (first second : List ℕ) → Bool
is_either name first second = bytes_eq name first || bytes_eq name second

abbrev pub attribute_named : List ℕ → Attribute
attribute_named name =
    if is_either name (codes "left") (codes "right") then attribute.Bound
    else (if is_either name (codes "high") (codes "low") then attribute.Bound
    else (if bytes_eq name (codes "length") then attribute.Length
    else (if bytes_eq name (codes "pos") then attribute.Position
    else (if bytes_eq name (codes "val") then attribute.ValueAt
    else (if is_either name (codes "succ") (codes "pred") then attribute.Neighbour
    else (if bytes_eq name (codes "image") then attribute.Image
    else (if bytes_eq name (codes "event") then attribute.Event
    else (if bytes_eq name (codes "reverse_range") then attribute.ReverseRange
    else attribute.Other))))))))

-- ---- what a declaration can be in a name. A unit of TIME stands in physical literals alone, and an element of a record behind a value

abbrev pub role_of : Class → Role
role_of class.Library = role.Unit
role_of class.Entity = role.Unit
role_of class.Package = role.Unit
role_of class.UninstantiatedPackage = role.Unit
role_of class.PackageInstance = role.Unit
role_of class.Constant = role.Object
role_of class.Variable = role.Object
role_of class.GenericConstant = role.Object
role_of class.Parameter = role.Object
role_of class.LoopParameter = role.Object
role_of class.GenerateParameter = role.Object
role_of class.Signal = role.Signal
role_of class.Port = role.Signal
role_of class.EnumerationLiteral = role.Literal
role_of class.Function = role.Function
role_of class.GenericFunction = role.Function
role_of class.InstanceFunction = role.Function
role_of class.PredefinedOperator = role.Function
role_of class.EnumerationType = role.Mark
role_of class.IntegerType = role.Mark
role_of class.PhysicalType = role.Mark
role_of (class.ArrayType index element element_mark) = role.Mark
role_of class.RecordType = role.Mark
role_of class.GenericType = role.Mark
role_of (class.Subtype mark) = role.Mark
role_of _ = role.Other
