-- What types are made of, what marks mean, and which types are converted to one another. (IEEE 1076, types; type conversions)
use Rattle.std.specs.Prelude.{ℕ, zero, suc, ◌+◌, ◌-◌, ◌==◌, Bool, true, false, ◌&&◌, List, [], ◌∷◌, ◌++◌, Option, Some, None, if◌then◌else◌}
use Rattle.std.specs.List.{filter, list_all, list_any}
use Rattle.std.specs.Str.{bytes_eq}
use Rattle.vd_trees.specs.declared.revision.Revision.TheVariants.{V2019, V1993}
use Rattle.vd_declarations.specs.declared.classes.Class.{Class}
use Rattle.vd_declarations.specs.declared.classes.Class.TheVariants as class
use Rattle.vd_declarations.specs.Classes.{is_type}
use Rattle.vd_predefined.specs.declared.numbers.TheConstants.{STD_ULOGIC_VECTOR, STD_LOGIC_VECTOR}
use Rattle.vd_visible.specs.Sights.{Sight, class_of, mark_of, name_of}

-- ---- equal types

abbrev pub is_some_type : ℕ → Option ℕ → Bool
is_some_type t None = false
is_some_type t (Some u) = t == u

-- the type that all of some have
abbrev pub common_type : List (Option ℕ) → Option ℕ
common_type [] = None
common_type (None ∷ marks) = None
common_type (Some t ∷ marks) = if list_all (is_some_type t) marks then Some t else None

-- ---- classes of types

-- a discrete type: an enumeration, or INTEGER
abbrev pub is_discrete : Class → Bool
is_discrete class.EnumerationType = true
is_discrete class.IntegerType = true
is_discrete _ = false

-- a discrete type, or TIME
abbrev pub is_scalar : Class → Bool
is_scalar class.EnumerationType = true
is_scalar class.IntegerType = true
is_scalar class.PhysicalType = true
is_scalar _ = false

abbrev pub is_record : Class → Bool
is_record class.RecordType = true
is_record _ = false

-- the types of the indexes and of the elements of an array type
abbrev pub index_of : Class → Option ℕ
index_of (class.ArrayType index element element_mark) = Some index
index_of _ = None

abbrev pub element_of : Class → Option ℕ
element_of (class.ArrayType index element element_mark) = Some element
element_of _ = None

-- ---- marks

-- the type that a type or a subtype names
abbrev pub type_named : Sight → ℕ → Class → Option ℕ
type_named s k (class.Subtype mark) = mark_of s k
type_named s k c = if is_type c then Some k else None

abbrev pub type_meant : Sight → ℕ → Option ℕ
type_meant s k = type_named s k (class_of s k)

-- ---- literals of an enumeration type: they are declared right behind it

abbrev pub is_literal_of : Sight → ℕ → ℕ → Bool
is_literal_of s t k = elim (class_of s k) [ class.EnumerationLiteral ↦ is_some_type t (mark_of s k) | _ ↦ false ]

-- those of the next n declarations from k on, up to the first that is none
abbrev pub literals_from : Sight → ℕ → ℕ → ℕ → List ℕ
literals_from s t zero k = []
literals_from s t (suc n) k = elim (is_literal_of s t k) [ true ↦ k ∷ literals_from s t n (k + 1) | false ↦ [] ]

-- a declaration's number has 32 bits
abbrev pub literals_of : Sight → ℕ → List ℕ
literals_of s t = literals_from s t (4294967296 - (t + 1)) (t + 1)

-- the position of a literal of this type
abbrev pub position_in : ℕ → ℕ → ℕ
position_in t k = k - (t + 1)

-- the name of a character literal has its apostrophes (39)
abbrev pub letter_name : List ℕ → List ℕ
letter_name text = 39 ∷ (text ++ 39 ∷ [])

abbrev pub is_character : Sight → ℕ → ℕ → Bool
is_character s character k = bytes_eq (name_of s k) (letter_name (character ∷ []))

-- the type has this character among its literals
abbrev pub has_character : Sight → ℕ → ℕ → Bool
has_character s t character = list_any (is_character s character) (literals_of s t)

-- a literal in quotation marks is of each array type whose elements are of an enumeration type with all its characters
abbrev pub spells : Sight → Option ℕ → List ℕ → Bool
spells s None text = false
spells s (Some element) text =
    elim (class_of s element) [ class.EnumerationType ↦ list_all (has_character s element) text | _ ↦ false ]

-- ---- conversions of array types

-- The mark of elements, followed through subtypes to the first of the two vector types of IEEE 1164, or to a type. A mark is older than
-- what names it, so that there are no more than its number says.
abbrev pub followed_from : ℕ → Sight → ℕ → ℕ
followed_from zero s k = k
followed_from (suc n) s k =
    if k == STD_LOGIC_VECTOR then k else elim (class_of s k) [ class.Subtype mark ↦ followed_from n s mark | _ ↦ k ]

abbrev pub followed : Sight → ℕ → ℕ
followed s k = followed_from (k + 1) s k

-- In revision 2019 the two vector types are one type, and arrays of them are told apart by their marks. In 1993 they are two types.
abbrev pub marks_agree : Sight → (element mark mark' : ℕ) → Bool
marks_agree s element mark mark' =
    elim s.revision [ V2019 ↦ if element == STD_ULOGIC_VECTOR then followed s mark == followed s mark' else true | V1993 ↦ true ]

-- An array type is converted to one with the same type of the elements, where both index types are the same.
abbrev pub is_converted : Sight → Class → Class → Bool
is_converted s (class.ArrayType index element mark) (class.ArrayType index' element' mark') =
    (index == index') && ((element == element') && marks_agree s element mark mark')
is_converted s _ _ = false

-- ---- all types, in the order of their declarations

abbrev pub numbers_below : ℕ → List ℕ
numbers_below zero = []
numbers_below (suc n) = numbers_below n ++ n ∷ []

abbrev pub all_types : Sight → List ℕ
all_types s = filter (λ k. is_type (class_of s k)) (numbers_below s.count)

-- those from which a conversion to a type is legal: array types for an array type, and any other type alone
abbrev pub sources_of : Sight → ℕ → Class → List ℕ
sources_of s t (class.ArrayType index element mark) =
    filter (λ u. is_converted s (class_of s u) (class.ArrayType index element mark)) (all_types s)
sources_of s t c = t ∷ []

abbrev pub sources : Sight → ℕ → List ℕ
sources s t = sources_of s t (class_of s t)
