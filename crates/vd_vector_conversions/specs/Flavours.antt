-- The two vector types of IEEE 1164, STD_LOGIC_VECTOR and STD_ULOGIC_VECTOR. (IEEE 1164: in the revision of 2008 the first is a subtype of the second, and
-- before that each is a type of its own.)
use Rattle.std.specs.Prelude.{ℕ, ◌==◌, Bool, true, false, List, Option, Some, None, codes, if◌then◌else◌}
use Rattle.vd_predefined.specs.declared.numbers.TheConstants.{STD_ULOGIC_VECTOR, STD_LOGIC_VECTOR}
use Rattle.vd_vector_conversions.specs.declared.flavours.Flavour.{Flavour}
use Rattle.vd_vector_conversions.specs.declared.flavours.Flavour.TheVariants.{Logic, Ulogic}

abbrev pub type_number : Flavour → ℕ
type_number Logic = STD_LOGIC_VECTOR
type_number Ulogic = STD_ULOGIC_VECTOR

abbrev pub type_name : Flavour → List ℕ
type_name Logic = codes "std_logic_vector"
type_name Ulogic = codes "std_ulogic_vector"

abbrev pub same_flavour : Flavour → Flavour → Bool
same_flavour Logic Logic = true
same_flavour Logic Ulogic = false
same_flavour Ulogic Logic = false
same_flavour Ulogic Ulogic = true

-- the first that there is
abbrev pub or_else : Option Flavour → Option Flavour → Option Flavour
or_else None other = other
or_else (Some f) other = Some f

abbrev pub or_flavour : Option Flavour → Flavour → Flavour
or_flavour None other = other
or_flavour (Some f) other = f

-- what is wanted, where that is another than there is
abbrev pub differing : Option Flavour → Option Flavour → Option Flavour
differing (Some f) (Some g) = if same_flavour f g then None else Some g
differing _ _ = None

-- whether there are two numbers, and they are one
abbrev pub same_number : Option ℕ → Option ℕ → Bool
same_number (Some m) (Some n) = m == n
same_number _ _ = false

-- the type that both have in revision 2019
abbrev pub is_vector : Option ℕ → Bool
is_vector None = false
is_vector (Some n) = n == STD_ULOGIC_VECTOR

-- the type of what is of a flavour, where it is a vector
abbrev pub retyped : Option ℕ → Flavour → Option ℕ
retyped mark f = if is_vector mark then Some (type_number f) else mark
