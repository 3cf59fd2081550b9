-- What the rules of scope and visibility ask of kinds of declarations. (IEEE 1076, scope and visibility; subprogram overloading)
use Rattle.std.specs.Prelude.{ℕ, Bool, true, false, List, [], ◌∷◌, Option, Some, None}
use Rattle.vd_declarations.specs.declared.classes.Class.{Class}
use Rattle.vd_declarations.specs.declared.classes.Class.TheVariants as class

-- functions, operators and enumeration literals, of which several may have one name
abbrev pub is_overloadable : Class → Bool
is_overloadable class.EnumerationLiteral = true
is_overloadable class.Function = true
is_overloadable class.UninstantiatedFunction = true
is_overloadable class.GenericFunction = true
is_overloadable class.InstanceFunction = true
is_overloadable (class.ActualFunction actual) = true
is_overloadable class.PredefinedOperator = true
is_overloadable _ = false

-- a function that somebody wrote
abbrev pub is_function : Class → Bool
is_function class.Function = true
is_function class.UninstantiatedFunction = true
is_function class.GenericFunction = true
is_function class.InstanceFunction = true
is_function (class.ActualFunction actual) = true
is_function _ = false

-- an operator that a type brought with it
abbrev pub is_predefined : Class → Bool
is_predefined class.PredefinedOperator = true
is_predefined _ = false

-- a function that an instance of a package declares
abbrev pub is_copy : Class → Bool
is_copy class.InstanceFunction = true
is_copy (class.ActualFunction actual) = true
is_copy _ = false

-- The declaration that a name means where it isn't the one that stands under it: the library of a library clause, and the actual
-- of a function that is a generic.
abbrev pub meaning : Class → Option ℕ
meaning (class.LibraryName library) = Some library
meaning (class.ActualFunction actual) = Some actual
meaning _ = None

-- a type, and no subtype
abbrev pub is_type : Class → Bool
is_type class.EnumerationType = true
is_type class.IntegerType = true
is_type class.PhysicalType = true
is_type (class.ArrayType index element element_mark) = true
is_type class.RecordType = true
is_type class.GenericType = true
is_type _ = false

-- the library that a library clause names
abbrev pub library_of : Class → Option ℕ
library_of (class.LibraryName library) = Some library
library_of _ = None

-- the types that a class names
abbrev pub types_of : Class → List ℕ
types_of (class.ArrayType index element element_mark) = index ∷ element ∷ []
types_of _ = []

-- the declarations that a class names besides
abbrev pub named_by : Class → List ℕ
named_by (class.LibraryName library) = library ∷ []
named_by (class.ArrayType index element element_mark) = element_mark ∷ []
named_by (class.Subtype mark) = mark ∷ []
named_by (class.ActualFunction actual) = actual ∷ []
named_by _ = []
