-- Where what is given can't be entered: the declaration in the way of the first that may not stand where its line puts it. There is none
-- in the tables of either revision.
use Rattle.std.specs.Prelude.{ℕ, List, [], ◌∷◌, length, Option, Some, None, codes, if◌then◌else◌}
use Rattle.std.specs.Option.{option_or}
use Rattle.vd_trees.specs.declared.revision.Revision.{Revision}
use Rattle.vd_declarations.specs.declared.classes.Class.{Class}
use Rattle.vd_declarations.specs.declared.classes.Class.TheVariants as class
use Rattle.vd_regions.specs.Scopes.{Scopes}
use Rattle.vd_regions.specs.Homographs.{homograph}
use Rattle.vd_predefined.specs.declared.numbers.TheConstants.{INTEGER, REGION_OF_LIBRARIES, REGION_OF_IEEE_NAME, REGION_OF_WORK, REGION_OF_STD, REGION_OF_IEEE, REGION_OF_STANDARD, REGION_OF_1164}
use Rattle.vd_predefined.specs.Lines.{GivenLine, GivenRow}
use Rattle.vd_predefined.specs.Lines.{enumeration, integer, physical, subtype, array, operators, function}
use Rattle.vd_predefined.specs.Table.{standard_types, standard_operators, logic_types, logic_operators}
use Rattle.vd_predefined.specs.Entries.{declared, unit, with_entry, with_region}
use Rattle.vd_predefined.specs.Clashes.{clash_of_operators}
use Rattle.vd_predefined.specs.Given.{class_of, holds_in, with_row, with_rows, with_regions, with_units}

-- ---- lines

abbrev pub clash_of_values : Scopes → ℕ → Class → ℕ → List (List ℕ) → Option ℕ
clash_of_values s region c own [] = None
clash_of_values s region c own (name ∷ names) =
    option_or (homograph s region (declared c name (Some own) []))
    (clash_of_values (with_entry s region (declared c name (Some own) [])) region c own names)

abbrev pub clash_of_type : Scopes → ℕ → Class → Class → List ℕ → List (List ℕ) → Option ℕ
clash_of_type s region c values name names =
    option_or (homograph s region (declared c name None []))
    (clash_of_values (with_entry s region (declared c name None [])) region values (length s.entered) names)

abbrev pub clash_of_function : Scopes → ℕ → Class → (name parameter : List ℕ) → (own result : ℕ) → Option ℕ
clash_of_function s region c name parameter own result =
    option_or (homograph (with_region s region) (length s.regions) (declared class.Parameter parameter (Some own) []))
    (homograph (with_entry (with_region s region) (length s.regions) (declared class.Parameter parameter (Some own) []))
    region (declared c name (Some result) (length s.entered ∷ [])))

abbrev pub clash_of_line : Scopes → ℕ → GivenLine → Option ℕ
clash_of_line s region (enumeration name literals) = clash_of_type s region class.EnumerationType class.EnumerationLiteral name literals
clash_of_line s region (integer name) = homograph s region (declared class.IntegerType name None [])
clash_of_line s region (physical name units) = clash_of_type s region class.PhysicalType class.PhysicalUnit name units
clash_of_line s region (subtype name mark base) = homograph s region (declared (class.Subtype mark) name (Some base) [])
clash_of_line s region (array name element element_mark) =
    homograph s region (declared (class.ArrayType INTEGER element element_mark) name None [])
clash_of_line s region (operators origin own element groups) = clash_of_operators s region (class_of origin) own element groups
clash_of_line s region (function origin name parameter own result) = clash_of_function s region (class_of origin) name parameter own result

abbrev pub clash_of_row : Revision → Scopes → ℕ → GivenRow → Option ℕ
clash_of_row r s region row = if holds_in r row.revisions then clash_of_line s region row.line else None

abbrev pub clash_of_rows : Revision → Scopes → ℕ → List GivenRow → Option ℕ
clash_of_rows r s region [] = None
clash_of_rows r s region (row ∷ rows) = option_or (clash_of_row r s region row) (clash_of_rows r (with_row r s region row) region rows)

-- ---- libraries and packages

-- each is entered behind those before it
abbrev pub with_work : Scopes
with_work = with_entry with_regions REGION_OF_LIBRARIES (unit class.Library (codes "work") REGION_OF_WORK)

abbrev pub with_std : Scopes
with_std = with_entry with_work REGION_OF_LIBRARIES (unit class.Library (codes "std") REGION_OF_STD)

abbrev pub with_ieee : Scopes
with_ieee = with_entry with_std REGION_OF_IEEE_NAME (unit class.Library (codes "ieee") REGION_OF_IEEE)

abbrev pub with_standard : Scopes
with_standard = with_entry with_ieee REGION_OF_STD (unit class.Package (codes "standard") REGION_OF_STANDARD)

abbrev pub clash_of_units : Option ℕ
clash_of_units =
    option_or (homograph with_regions REGION_OF_LIBRARIES (unit class.Library (codes "work") REGION_OF_WORK))
    (option_or (homograph with_work REGION_OF_LIBRARIES (unit class.Library (codes "std") REGION_OF_STD))
    (option_or (homograph with_std REGION_OF_IEEE_NAME (unit class.Library (codes "ieee") REGION_OF_IEEE))
    (option_or (homograph with_ieee REGION_OF_STD (unit class.Package (codes "standard") REGION_OF_STANDARD))
    (homograph with_standard REGION_OF_IEEE (unit class.Package (codes "std_logic_1164") REGION_OF_1164)))))

abbrev pub clash_of_packages : Revision → Option ℕ
clash_of_packages r =
    let types = with_rows r with_units REGION_OF_STANDARD standard_types in
    let logic = with_rows r types REGION_OF_1164 logic_types in
    let operators = with_rows r logic REGION_OF_STANDARD standard_operators in
    option_or (clash_of_rows r with_units REGION_OF_STANDARD standard_types)
    (option_or (clash_of_rows r types REGION_OF_1164 logic_types)
    (option_or (clash_of_rows r logic REGION_OF_STANDARD standard_operators)
    (clash_of_rows r operators REGION_OF_1164 logic_operators)))
