-- Values of a type, all the way down. An element or a field is asked against its type alone: a value outside its subtype may stand there, since it was made one of that
-- subtype where it came from. (IEEE 1076-2019, 5.1, 5.2, 5.3 and 6.3; IEEE 1076-1993, 3, 3.1, 3.2 and 4.2.)
use Rattle.std.specs.Prelude.{ℕ, suc, ◌==◌, Bool, true, false, ◌&&◌, List, [], ◌∷◌, map, Option, Some, None, if◌then◌else◌}
use Rattle.std.specs.List.{list_all}
use Rattle.vd_values.specs.declared.scalar.Scalar.{Scalar}
use Rattle.vd_composites.specs.declared.scalars.ScalarType.{ScalarType}
use Rattle.vd_composites.specs.declared.scalars.ScalarType.TheVariants.{Integers, Enumeration, Times}
use Rattle.vd_composites.specs.Ranges.{length_of, is_within}
use Rattle.vd_composites.specs.Scalars.{position_of, is_of, whole_range}
use Rattle.vd_composites.specs.Composites.{Value, One, Array, Fields, Items, none, item, count}
use Rattle.vd_declarations.specs.declared.classes.Class.{Class}
use Rattle.vd_declarations.specs.declared.classes.Class.TheVariants as class
use Rattle.vd_declarations.specs.declared.declarations.Declaration.{Declaration}
use Rattle.vd_meaning.specs.Tables.{Table, actual_mark, same_type}

-- ---- types, by their declarations

abbrev pub is_literal_of : Option ℕ → Class → Option ℕ → Bool
is_literal_of t class.EnumerationLiteral mark = same_type t mark
is_literal_of t _ mark = false

-- how many literals an enumeration type has, among these declarations
abbrev pub literals_of : ℕ → List Declaration → ℕ
literals_of t [] = 0
literals_of t (d ∷ ds) = if is_literal_of (Some t) d.class d.mark then suc (literals_of t ds) else literals_of t ds

abbrev pub scalar_type_by : List Declaration → ℕ → Class → Option ScalarType
scalar_type_by ds t class.EnumerationType = Some (Enumeration (literals_of t ds))
scalar_type_by ds t class.IntegerType = Some Integers
scalar_type_by ds t class.PhysicalType = Some Times
scalar_type_by ds t _ = None

abbrev pub element_by : Class → Option ℕ
element_by (class.ArrayType index element element_mark) = Some element
element_by _ = None

-- the types of the elements of a record type, in its order
abbrev pub fields_by : Table → Declaration → Class → Option (List (Option ℕ))
fields_by t d class.RecordType = Some (map (λ (n : ℕ). (t.declared n).mark) d.parameters)
fields_by t d _ = None

-- ---- values of a type

abbrev pub is_scalar_of : Option ScalarType → Scalar → Bool
is_scalar_of None x = false
is_scalar_of (Some t) x = is_of t x && is_within (whole_range t) (position_of x)

-- The number of the type, where a generic type of an instance is its actual. An array has as many elements as its bounds say; whether these bounds are those of a subtype
-- is asked where the value is made one of it.
module _ (ds : List Declaration) (t : Table) where
  abbrev mutual
    pub is_value_of : Option ℕ → Value Scalar → Bool
    is_value_of None v = false
    is_value_of (Some n) (One x) = is_scalar_of (scalar_type_by ds (actual_mark t n) (t.declared (actual_mark t n)).class) x
    is_value_of (Some n) (Array b vs) = (count vs == length_of b) && are_elements_of (element_by (t.declared (actual_mark t n)).class) vs
    is_value_of (Some n) (Fields vs) = are_fields_of (fields_by t (t.declared (actual_mark t n)) (t.declared (actual_mark t n)).class) vs

    pub are_elements_of : Option ℕ → Items Scalar → Bool
    are_elements_of None vs = false
    are_elements_of (Some n) none = true
    are_elements_of (Some n) (item v vs) = is_value_of (Some n) v && are_elements_of (Some n) vs

    pub are_fields_of : Option (List (Option ℕ)) → Items Scalar → Bool
    are_fields_of None vs = false
    are_fields_of (Some []) none = true
    are_fields_of (Some []) (item v vs) = false
    are_fields_of (Some (m ∷ ms)) none = false
    are_fields_of (Some (m ∷ ms)) (item v vs) = is_value_of m v && are_fields_of (Some ms) vs

  -- values for objects of these numbers
  abbrev pub have_values : List (ℕ × Value Scalar) → Bool
  have_values gs = list_all (λ (g : ℕ × Value Scalar). is_value_of (t.declared g.0).mark g.1) gs

  -- arguments of a function: one for each parameter, of its type
  abbrev pub are_values_of : List ℕ → List (Value Scalar) → Bool
  are_values_of [] [] = true
  are_values_of [] (v ∷ vs) = false
  are_values_of (p ∷ ps) [] = false
  are_values_of (p ∷ ps) (v ∷ vs) = is_value_of (t.declared p).mark v && are_values_of ps vs
