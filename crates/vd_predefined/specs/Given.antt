-- What is given: the tables, read from the top to the bottom, each line entering what it declares.
use Rattle.std.specs.Prelude.{ℕ, Bool, true, false, List, [], ◌∷◌, ◌++◌, length, Some, None, codes, if◌then◌else◌}
use lib.ListN.{set as slice_set_at}
use Rattle.vd_trees.specs.declared.revision.Revision.{Revision}
use Rattle.vd_trees.specs.declared.revision.Revision.TheVariants.{V2019, V1993}
use Rattle.vd_declarations.specs.declared.classes.Class.{Class}
use Rattle.vd_declarations.specs.declared.classes.Class.TheVariants as class
use Rattle.vd_regions.specs.Scopes.{Scopes, region_at}
use Rattle.vd_predefined.specs.declared.rows.Origin.{Origin}
use Rattle.vd_predefined.specs.declared.rows.Origin.TheVariants.{Brought, Declared}
use Rattle.vd_predefined.specs.declared.rows.Revisions.{Revisions}
use Rattle.vd_predefined.specs.declared.rows.Revisions.TheVariants.{Both, Only2019, Only1993}
use Rattle.vd_predefined.specs.declared.numbers.TheConstants.{INTEGER, REGION_OF_LIBRARIES, REGION_OF_IEEE_NAME, REGION_OF_WORK, REGION_OF_STD, REGION_OF_IEEE, REGION_OF_STANDARD, REGION_OF_1164}
use Rattle.vd_predefined.specs.Lines.{GivenLine, GivenRow}
use Rattle.vd_predefined.specs.Lines.{enumeration, integer, physical, subtype, array, operators, function}
use Rattle.vd_predefined.specs.Table.{standard_types, standard_operators, logic_types, logic_operators}
use Rattle.vd_predefined.specs.Entries.{declared, unit, with_entry, with_region, with_values}
use Rattle.vd_predefined.specs.Operators.{with_operators}

-- ---- lines

-- a type, and then its literals or units
abbrev pub with_type : Scopes → ℕ → Class → Class → List ℕ → List (List ℕ) → Scopes
with_type s region c values name names = with_values (with_entry s region (declared c name None [])) region values (length s.entered) names

-- a function, whose parameter stands in a region of its own
abbrev pub with_function : Scopes → ℕ → Class → (name parameter : List ℕ) → (own result : ℕ) → Scopes
with_function s region c name parameter own result =
    with_entry (with_entry (with_region s region) (length s.regions) (declared class.Parameter parameter (Some own) []))
    region (declared c name (Some result) (length s.entered ∷ []))

abbrev pub class_of : Origin → Class
class_of Brought = class.PredefinedOperator
class_of Declared = class.Function

abbrev pub with_line : Scopes → ℕ → GivenLine → Scopes
with_line s region (enumeration name literals) = with_type s region class.EnumerationType class.EnumerationLiteral name literals
with_line s region (integer name) = with_entry s region (declared class.IntegerType name None [])
with_line s region (physical name units) = with_type s region class.PhysicalType class.PhysicalUnit name units
with_line s region (subtype name mark base) = with_entry s region (declared (class.Subtype mark) name (Some base) [])
with_line s region (array name element element_mark) =
    with_entry s region (declared (class.ArrayType INTEGER element element_mark) name None [])
with_line s region (operators origin own element groups) = with_operators s region (class_of origin) own element groups
with_line s region (function origin name parameter own result) = with_function s region (class_of origin) name parameter own result

abbrev pub holds_in : Revision → Revisions → Bool
holds_in r Both = true
holds_in V2019 Only2019 = true
holds_in V1993 Only2019 = false
holds_in V1993 Only1993 = true
holds_in V2019 Only1993 = false

abbrev pub with_row : Revision → Scopes → ℕ → GivenRow → Scopes
with_row r s region row = if holds_in r row.revisions then with_line s region row.line else s

abbrev pub with_rows : Revision → Scopes → ℕ → List GivenRow → Scopes
with_rows r s region [] = s
with_rows r s region (row ∷ rows) = with_rows r (with_row r s region row) region rows

-- ---- libraries and packages

-- no declaration, and the region of the libraries
abbrev pub start : Scopes
start = record { entered = []; regions = record { outer = 0; continues = None; closed = false; uses = [] } ∷ [] }

-- The regions: a region that no chain has, with the name of the library ieee, which a library clause declares; those of the libraries; and
-- those of the packages.
abbrev pub with_regions : Scopes
with_regions =
    with_region (with_region (with_region (with_region (with_region (with_region start REGION_OF_LIBRARIES) REGION_OF_LIBRARIES) REGION_OF_LIBRARIES)
    REGION_OF_LIBRARIES) REGION_OF_STD) REGION_OF_IEEE

-- `work` and `std` are visible everywhere
abbrev pub with_units : Scopes
with_units =
    with_entry (with_entry (with_entry (with_entry (with_entry with_regions REGION_OF_LIBRARIES (unit class.Library (codes "work") REGION_OF_WORK))
    REGION_OF_LIBRARIES (unit class.Library (codes "std") REGION_OF_STD)) REGION_OF_IEEE_NAME (unit class.Library (codes "ieee") REGION_OF_IEEE))
    REGION_OF_STD (unit class.Package (codes "standard") REGION_OF_STANDARD)) REGION_OF_IEEE (unit class.Package (codes "std_logic_1164") REGION_OF_1164)

-- the types of both packages, and then the operators and functions
abbrev pub with_packages : Revision → Scopes
with_packages r =
    with_rows r (with_rows r (with_rows r (with_rows r with_units REGION_OF_STANDARD standard_types) REGION_OF_1164 logic_types)
    REGION_OF_STANDARD standard_operators) REGION_OF_1164 logic_operators

abbrev pub with_end : Scopes → ℕ → Scopes
with_end s region = record s { regions = slice_set_at s.regions region (record (region_at s region) { closed = true }) }

-- all of a region that ended is used
abbrev pub with_use : Scopes → (region from : ℕ) → Scopes
with_use s region from =
    record s { regions = slice_set_at s.regions region (record (region_at s region) { uses = (region_at s region).uses ++ record { from = from; name = None } ∷ [] }) }

-- all is given, both packages have ended, and all of `std.standard` is used round all units
abbrev pub given_scopes : Revision → Scopes
given_scopes r = with_use (with_end (with_end (with_packages r) REGION_OF_STANDARD) REGION_OF_1164) REGION_OF_LIBRARIES REGION_OF_STANDARD
