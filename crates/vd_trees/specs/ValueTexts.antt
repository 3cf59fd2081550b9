-- Values of scalar signals as text. (IEEE 1076, the attribute 'image; a physical value has its number in the primary unit.)
use Rattle.std.specs.Prelude.{ℕ, Bool, false, ◌==◌, List, [], ◌++◌, codes, slice_index_or}
use Rattle.std.specs.Fmt.{decimal, signed_decimal}
use Rattle.std.specs.Ordering.{int_eq}
use Rattle.vd_values.specs.declared.scalar.Scalar.{Scalar}
use Rattle.vd_values.specs.declared.scalar.Scalar.TheVariants.{Integer, Literal, Time}

-- the type of a scalar signal as printing sees it: an integer type, TIME, or an enumeration with the texts of its literals,
-- a character literal's with its apostrophes
pub data ScalarType : Type 0 where
  integers : ScalarType
  times : ScalarType
  enumeration : (literals : List (List ℕ)) → ScalarType

-- a value of the type; no other one has a text
abbrev pub value_text : ScalarType → Scalar → List ℕ
value_text integers (Integer n) = signed_decimal n
value_text times (Time n) = decimal n ++ codes " fs"
value_text (enumeration literals) (Literal position) = slice_index_or literals position []
value_text _ _ = []

abbrev pub same_scalar : Scalar → Scalar → Bool
same_scalar (Integer m) (Integer n) = int_eq m n
same_scalar (Literal m) (Literal n) = m == n
same_scalar (Time m) (Time n) = m == n
same_scalar _ _ = false
