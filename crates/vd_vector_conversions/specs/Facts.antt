-- What is known of a design's declarations, by their numbers.
use Rattle.std.specs.Prelude.{ℕ, Bool, true, false, List, [], Option, Some, None, slice_get, slice_index_or}
use Rattle.vd_declarations.specs.declared.classes.Class.{Class}
use Rattle.vd_declarations.specs.declared.classes.Class.TheVariants as class
use Rattle.vd_declarations.specs.declared.declarations.Declaration.{Declaration}
use Rattle.vd_vector_conversions.specs.declared.flavours.Flavour.{Flavour}
use Rattle.vd_vector_conversions.specs.declared.facts.Facts.{Facts}
use Rattle.vd_vector_conversions.specs.declared.facts.Mode.{Mode}
use Rattle.vd_vector_conversions.specs.declared.facts.Mode.TheVariants.{In}

-- the flavour of a declaration, and of what is named
abbrev pub flavour_numbered : Facts → ℕ → Option Flavour
flavour_numbered k n = slice_index_or k.flavours.items n None

abbrev pub flavour_at : Facts → Option ℕ → Option Flavour
flavour_at k None = None
flavour_at k (Some n) = flavour_numbered k n

-- the operator on STD_LOGIC_VECTOR for the one that is named
abbrev pub twin_at : Facts → Option ℕ → Option ℕ
twin_at k None = None
twin_at k (Some n) = slice_index_or k.twins.items n None

abbrev pub mode_at : Facts → Option ℕ → Mode
mode_at k None = In
mode_at k (Some n) = slice_index_or k.modes.items n In

-- ---- declarations

abbrev pub class_in : Option Declaration → Class
class_in None = class.Label
class_in (Some d) = d.class

abbrev pub mark_in : Option Declaration → Option ℕ
mark_in None = None
mark_in (Some d) = d.mark

abbrev pub name_in : Option Declaration → List ℕ
name_in None = []
name_in (Some d) = d.name

abbrev pub list_in : Option Declaration → List ℕ
list_in None = []
list_in (Some d) = d.parameters

abbrev pub class_at : Facts → ℕ → Class
class_at k n = class_in (slice_get k.declared.items n)

abbrev pub declared_mark : Facts → ℕ → Option ℕ
declared_mark k n = mark_in (slice_get k.declared.items n)

abbrev pub declared_name : Facts → ℕ → List ℕ
declared_name k n = name_in (slice_get k.declared.items n)

-- the parameters of a function, the elements of a record type
abbrev pub listed : Facts → ℕ → List ℕ
listed k n = list_in (slice_get k.declared.items n)

-- whether what is named is a signal or a port
abbrev pub is_signal_class : Class → Bool
is_signal_class class.Signal = true
is_signal_class class.Port = true
is_signal_class _ = false

abbrev pub is_signal : Facts → Option ℕ → Bool
is_signal k None = false
is_signal k (Some n) = is_signal_class (class_at k n)

-- ---- what stands in a type or a list

-- the flavour of the elements of an array type
abbrev pub elements_of : Facts → Class → Option Flavour
elements_of k (class.ArrayType index element element_mark) = flavour_numbered k element_mark
elements_of k _ = None

abbrev pub element_flavour : Facts → Option ℕ → Option Flavour
element_flavour k None = None
element_flavour k (Some n) = elements_of k (class_at k n)

-- that of a parameter or an element of a record type, by its position
abbrev pub listed_flavour : Facts → ℕ → ℕ → Option Flavour
listed_flavour k owner index = flavour_at k (slice_get (listed k owner) index)
