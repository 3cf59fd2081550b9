-- What is given, as tables to be held beside the standards. (IEEE 1076, predefined language environment; IEEE 1164.)
-- First the operators, in groups. Then the packages `std.standard` and `ieee.std_logic_1164` as far as the profile takes them: their
-- types, so that each has one number in both revisions, and then the operators and functions of these.
use Rattle.std.specs.Prelude.{ℕ, List, [], ◌∷◌, Some, None, codes}
use Rattle.vd_predefined.specs.declared.operators.Group.{Group}
use Rattle.vd_predefined.specs.declared.operators.Group.TheVariants as group
use Rattle.vd_predefined.specs.declared.operators.Operand.TheVariants as operand
use Rattle.vd_predefined.specs.declared.operators.Outcome.TheVariants as outcome
use Rattle.vd_predefined.specs.declared.rows.Origin.TheVariants.{Brought, Declared}
use Rattle.vd_predefined.specs.declared.rows.Revisions.TheVariants.{Both, Only2019, Only1993}
use Rattle.vd_predefined.specs.declared.numbers.TheConstants.{BOOLEAN, BIT, CHARACTER, SEVERITY_LEVEL, INTEGER, TIME, STRING, BIT_VECTOR, STD_ULOGIC, STD_ULOGIC_VECTOR, STD_LOGIC, STD_LOGIC_VECTOR}
use Rattle.vd_predefined.specs.Lines.{OperatorLine, one, two, GivenRow, row}
use Rattle.vd_predefined.specs.Lines.{enumeration, integer, physical, subtype, array, operators, function}

-- ---- operators: the symbol, the operands and the result, each of the type itself, of its elements, of INTEGER or of BOOLEAN

abbrev pub operators_in : Group → List OperatorLine
-- of every type.
operators_in group.Equality =
    two (codes "=") operand.Own operand.Own outcome.Boolean ∷
    two (codes "/=") operand.Own operand.Own outcome.Boolean ∷
    []
-- of scalar types, and of arrays of discrete elements.
operators_in group.Order =
    two (codes "<") operand.Own operand.Own outcome.Boolean ∷
    two (codes "<=") operand.Own operand.Own outcome.Boolean ∷
    two (codes ">") operand.Own operand.Own outcome.Boolean ∷
    two (codes ">=") operand.Own operand.Own outcome.Boolean ∷
    []
-- of BIT and BOOLEAN, and of arrays of them.
operators_in group.Logic =
    two (codes "and") operand.Own operand.Own outcome.Own ∷
    two (codes "or") operand.Own operand.Own outcome.Own ∷
    two (codes "nand") operand.Own operand.Own outcome.Own ∷
    two (codes "nor") operand.Own operand.Own outcome.Own ∷
    two (codes "xor") operand.Own operand.Own outcome.Own ∷
    two (codes "xnor") operand.Own operand.Own outcome.Own ∷
    one (codes "not") operand.Own outcome.Own ∷
    []
-- of arrays of BIT and BOOLEAN.
operators_in group.Shifts =
    two (codes "sll") operand.Own operand.Integer outcome.Own ∷
    two (codes "srl") operand.Own operand.Integer outcome.Own ∷
    two (codes "sla") operand.Own operand.Integer outcome.Own ∷
    two (codes "sra") operand.Own operand.Integer outcome.Own ∷
    two (codes "rol") operand.Own operand.Integer outcome.Own ∷
    two (codes "ror") operand.Own operand.Integer outcome.Own ∷
    []
-- of arrays.
operators_in group.Joining =
    two (codes "&") operand.Own operand.Own outcome.Own ∷
    two (codes "&") operand.Own operand.Element outcome.Own ∷
    two (codes "&") operand.Element operand.Own outcome.Own ∷
    two (codes "&") operand.Element operand.Element outcome.Own ∷
    []
-- of INTEGER.
operators_in group.Arithmetic =
    one (codes "+") operand.Own outcome.Own ∷
    one (codes "-") operand.Own outcome.Own ∷
    one (codes "abs") operand.Own outcome.Own ∷
    two (codes "+") operand.Own operand.Own outcome.Own ∷
    two (codes "-") operand.Own operand.Own outcome.Own ∷
    two (codes "*") operand.Own operand.Own outcome.Own ∷
    two (codes "/") operand.Own operand.Own outcome.Own ∷
    two (codes "mod") operand.Own operand.Own outcome.Own ∷
    two (codes "rem") operand.Own operand.Own outcome.Own ∷
    two (codes "**") operand.Own operand.Own outcome.Own ∷
    []
-- of TIME.
operators_in group.TimeArithmetic =
    two (codes "+") operand.Own operand.Own outcome.Own ∷
    two (codes "-") operand.Own operand.Own outcome.Own ∷
    two (codes "*") operand.Own operand.Integer outcome.Own ∷
    two (codes "*") operand.Integer operand.Own outcome.Own ∷
    two (codes "/") operand.Own operand.Integer outcome.Own ∷
    []
-- the condition operator.
operators_in group.Condition =
    one (codes "??") operand.Own outcome.Boolean ∷
    []
-- matching, of scalars.
operators_in group.Matching =
    two (codes "?=") operand.Own operand.Own outcome.Own ∷
    two (codes "?/=") operand.Own operand.Own outcome.Own ∷
    []
-- matching order, of scalars.
operators_in group.MatchingOrder =
    two (codes "?<") operand.Own operand.Own outcome.Own ∷
    two (codes "?<=") operand.Own operand.Own outcome.Own ∷
    two (codes "?>") operand.Own operand.Own outcome.Own ∷
    two (codes "?>=") operand.Own operand.Own outcome.Own ∷
    []
-- matching, of arrays.
operators_in group.ArrayMatching =
    two (codes "?=") operand.Own operand.Own outcome.Element ∷
    two (codes "?/=") operand.Own operand.Own outcome.Element ∷
    []
-- matching order, of arrays.
operators_in group.ArrayMatchingOrder =
    two (codes "?<") operand.Own operand.Own outcome.Element ∷
    two (codes "?<=") operand.Own operand.Own outcome.Element ∷
    two (codes "?>") operand.Own operand.Own outcome.Element ∷
    two (codes "?>=") operand.Own operand.Own outcome.Element ∷
    []
-- logical operators between an array and a value of its element type.
operators_in group.MixedLogic =
    two (codes "and") operand.Own operand.Element outcome.Own ∷
    two (codes "and") operand.Element operand.Own outcome.Own ∷
    two (codes "or") operand.Own operand.Element outcome.Own ∷
    two (codes "or") operand.Element operand.Own outcome.Own ∷
    two (codes "nand") operand.Own operand.Element outcome.Own ∷
    two (codes "nand") operand.Element operand.Own outcome.Own ∷
    two (codes "nor") operand.Own operand.Element outcome.Own ∷
    two (codes "nor") operand.Element operand.Own outcome.Own ∷
    two (codes "xor") operand.Own operand.Element outcome.Own ∷
    two (codes "xor") operand.Element operand.Own outcome.Own ∷
    two (codes "xnor") operand.Own operand.Element outcome.Own ∷
    two (codes "xnor") operand.Element operand.Own outcome.Own ∷
    []
-- logical operators that reduce an array.
operators_in group.Reductions =
    one (codes "and") operand.Own outcome.Element ∷
    one (codes "or") operand.Own outcome.Element ∷
    one (codes "nand") operand.Own outcome.Element ∷
    one (codes "nor") operand.Own outcome.Element ∷
    one (codes "xor") operand.Own outcome.Element ∷
    one (codes "xnor") operand.Own outcome.Element ∷
    []
-- the logical operators of IEEE 1164 in both revisions. The 1993 side has no `xnor` there.
operators_in group.Logic1164 =
    two (codes "and") operand.Own operand.Own outcome.Own ∷
    two (codes "nand") operand.Own operand.Own outcome.Own ∷
    two (codes "or") operand.Own operand.Own outcome.Own ∷
    two (codes "nor") operand.Own operand.Own outcome.Own ∷
    two (codes "xor") operand.Own operand.Own outcome.Own ∷
    one (codes "not") operand.Own outcome.Own ∷
    []
-- the one of revision 2019.
operators_in group.Xnor1164 =
    two (codes "xnor") operand.Own operand.Own outcome.Own ∷
    []
-- the shifts of IEEE 1164.
operators_in group.Shifts1164 =
    two (codes "sll") operand.Own operand.Integer outcome.Own ∷
    two (codes "srl") operand.Own operand.Integer outcome.Own ∷
    two (codes "rol") operand.Own operand.Integer outcome.Own ∷
    two (codes "ror") operand.Own operand.Integer outcome.Own ∷
    []

-- ---- the groups of the types that users declare

-- enumerations
abbrev pub groups_of_enumerations : List Group
groups_of_enumerations = group.Equality ∷ group.Order ∷ []

-- records, and types that are generics
abbrev pub groups_of_others : List Group
groups_of_others = group.Equality ∷ []

-- arrays whose elements are BIT or BOOLEAN, other scalars of a discrete type, or anything else
abbrev pub groups_of_logic_arrays : List Group
groups_of_logic_arrays = group.Equality ∷ group.Order ∷ group.Logic ∷ group.Shifts ∷ group.Joining ∷ []

abbrev pub groups_of_discrete_arrays : List Group
groups_of_discrete_arrays = group.Equality ∷ group.Order ∷ group.Joining ∷ []

abbrev pub groups_of_other_arrays : List Group
groups_of_other_arrays = group.Equality ∷ group.Joining ∷ []

-- ---- std.standard

-- the literals of CHARACTER, the first 128 of the standard's
abbrev pub characters : List (List ℕ)
characters =
    codes "nul" ∷ codes "soh" ∷ codes "stx" ∷ codes "etx" ∷ codes "eot" ∷ codes "enq" ∷ codes "ack" ∷ codes "bel" ∷
    codes "bs" ∷ codes "ht" ∷ codes "lf" ∷ codes "vt" ∷ codes "ff" ∷ codes "cr" ∷ codes "so" ∷ codes "si" ∷
    codes "dle" ∷ codes "dc1" ∷ codes "dc2" ∷ codes "dc3" ∷ codes "dc4" ∷ codes "nak" ∷ codes "syn" ∷ codes "etb" ∷
    codes "can" ∷ codes "em" ∷ codes "sub" ∷ codes "esc" ∷ codes "fsp" ∷ codes "gsp" ∷ codes "rsp" ∷ codes "usp" ∷
    codes "' '" ∷ codes "'!'" ∷ codes "'\"'" ∷ codes "'#'" ∷ codes "'$'" ∷ codes "'%'" ∷ codes "'&'" ∷ codes "'''" ∷
    codes "'('" ∷ codes "')'" ∷ codes "'*'" ∷ codes "'+'" ∷ codes "','" ∷ codes "'-'" ∷ codes "'.'" ∷ codes "'/'" ∷
    codes "'0'" ∷ codes "'1'" ∷ codes "'2'" ∷ codes "'3'" ∷ codes "'4'" ∷ codes "'5'" ∷ codes "'6'" ∷ codes "'7'" ∷
    codes "'8'" ∷ codes "'9'" ∷ codes "':'" ∷ codes "';'" ∷ codes "'<'" ∷ codes "'='" ∷ codes "'>'" ∷ codes "'?'" ∷
    codes "'@'" ∷ codes "'A'" ∷ codes "'B'" ∷ codes "'C'" ∷ codes "'D'" ∷ codes "'E'" ∷ codes "'F'" ∷ codes "'G'" ∷
    codes "'H'" ∷ codes "'I'" ∷ codes "'J'" ∷ codes "'K'" ∷ codes "'L'" ∷ codes "'M'" ∷ codes "'N'" ∷ codes "'O'" ∷
    codes "'P'" ∷ codes "'Q'" ∷ codes "'R'" ∷ codes "'S'" ∷ codes "'T'" ∷ codes "'U'" ∷ codes "'V'" ∷ codes "'W'" ∷
    codes "'X'" ∷ codes "'Y'" ∷ codes "'Z'" ∷ codes "'['" ∷ codes "'\\'" ∷ codes "']'" ∷ codes "'^'" ∷ codes "'_'" ∷
    codes "'`'" ∷ codes "'a'" ∷ codes "'b'" ∷ codes "'c'" ∷ codes "'d'" ∷ codes "'e'" ∷ codes "'f'" ∷ codes "'g'" ∷
    codes "'h'" ∷ codes "'i'" ∷ codes "'j'" ∷ codes "'k'" ∷ codes "'l'" ∷ codes "'m'" ∷ codes "'n'" ∷ codes "'o'" ∷
    codes "'p'" ∷ codes "'q'" ∷ codes "'r'" ∷ codes "'s'" ∷ codes "'t'" ∷ codes "'u'" ∷ codes "'v'" ∷ codes "'w'" ∷
    codes "'x'" ∷ codes "'y'" ∷ codes "'z'" ∷ codes "'{'" ∷ codes "'|'" ∷ codes "'}'" ∷ codes "'~'" ∷ codes "del" ∷
    []

unfoldable pub standard_types : List GivenRow
standard_types =
    row Both (enumeration (codes "boolean") (codes "false" ∷ codes "true" ∷ [])) ∷
    row Both (enumeration (codes "bit") (codes "'0'" ∷ codes "'1'" ∷ [])) ∷
    row Both (enumeration (codes "character") characters) ∷
    row Both (enumeration (codes "severity_level") (codes "note" ∷ codes "warning" ∷ codes "error" ∷ codes "failure" ∷ [])) ∷
    row Both (integer (codes "integer")) ∷
    row Both (physical (codes "time") (codes "fs" ∷ codes "ps" ∷ codes "ns" ∷ codes "us" ∷ codes "ms" ∷ codes "sec" ∷ codes "min" ∷ codes "hr" ∷ [])) ∷
    row Both (subtype (codes "delay_length") TIME TIME) ∷
    row Both (subtype (codes "natural") INTEGER INTEGER) ∷
    row Both (subtype (codes "positive") INTEGER INTEGER) ∷
    row Both (array (codes "string") CHARACTER CHARACTER) ∷
    row Both (array (codes "bit_vector") BIT BIT) ∷
    []

unfoldable pub standard_operators : List GivenRow
standard_operators =
    row Both (operators Brought BOOLEAN None (group.Equality ∷ group.Order ∷ group.Logic ∷ [])) ∷
    row Both (operators Brought BIT None (group.Equality ∷ group.Order ∷ group.Logic ∷ [])) ∷
    row Both (operators Brought CHARACTER None (group.Equality ∷ group.Order ∷ [])) ∷
    row Both (operators Brought SEVERITY_LEVEL None (group.Equality ∷ group.Order ∷ [])) ∷
    row Both (operators Brought INTEGER None (group.Equality ∷ group.Order ∷ group.Arithmetic ∷ [])) ∷
    row Both (operators Brought TIME None (group.Equality ∷ group.Order ∷ group.TimeArithmetic ∷ [])) ∷
    row Both (operators Brought STRING (Some CHARACTER) (group.Equality ∷ group.Order ∷ group.Joining ∷ [])) ∷
    row Both (operators Brought BIT_VECTOR (Some BIT) (group.Equality ∷ group.Order ∷ group.Logic ∷ group.Shifts ∷ group.Joining ∷ [])) ∷
    row Only2019 (operators Brought BIT None (group.Condition ∷ group.Matching ∷ group.MatchingOrder ∷ [])) ∷
    row Only2019 (operators Brought BIT_VECTOR (Some BIT) (group.ArrayMatching ∷ group.MixedLogic ∷ group.Reductions ∷ [])) ∷
    row Only2019 (function Brought (codes "to_string") (codes "value") BOOLEAN STRING) ∷
    row Only2019 (function Brought (codes "to_string") (codes "value") INTEGER STRING) ∷
    []

-- ---- ieee.std_logic_1164. The matching order of STD_ULOGIC and of its vectors is no part of the profile. It is visible all the same, so that a call of it
-- is found, and refused as what it is.

unfoldable pub logic_types : List GivenRow
logic_types =
    row Both (enumeration (codes "std_ulogic") (codes "'U'" ∷ codes "'X'" ∷ codes "'0'" ∷ codes "'1'" ∷ codes "'Z'" ∷ codes "'W'" ∷ codes "'L'" ∷ codes "'H'" ∷ codes "'-'" ∷ [])) ∷
    row Both (array (codes "std_ulogic_vector") STD_ULOGIC STD_ULOGIC) ∷
    row Both (subtype (codes "std_logic") STD_ULOGIC STD_ULOGIC) ∷
    row Only2019 (subtype (codes "std_logic_vector") STD_ULOGIC_VECTOR STD_ULOGIC_VECTOR) ∷
    row Only1993 (array (codes "std_logic_vector") STD_ULOGIC STD_LOGIC) ∷
    row Both (subtype (codes "x01") STD_ULOGIC STD_ULOGIC) ∷
    row Both (subtype (codes "x01z") STD_ULOGIC STD_ULOGIC) ∷
    row Both (subtype (codes "ux01") STD_ULOGIC STD_ULOGIC) ∷
    row Both (subtype (codes "ux01z") STD_ULOGIC STD_ULOGIC) ∷
    []

unfoldable pub logic_operators : List GivenRow
logic_operators =
    row Both (operators Brought STD_ULOGIC None (group.Equality ∷ group.Order ∷ [])) ∷
    row Both (operators Brought STD_ULOGIC_VECTOR (Some STD_ULOGIC) (group.Equality ∷ group.Order ∷ group.Joining ∷ [])) ∷
    row Only1993 (operators Brought STD_LOGIC_VECTOR (Some STD_ULOGIC) (group.Equality ∷ group.Order ∷ group.Joining ∷ [])) ∷
    row Only2019 (operators Brought STD_ULOGIC None (group.Matching ∷ group.MatchingOrder ∷ [])) ∷
    row Only2019 (operators Brought STD_ULOGIC_VECTOR (Some STD_ULOGIC) (group.ArrayMatching ∷ group.ArrayMatchingOrder ∷ [])) ∷
    row Only2019 (function Brought (codes "to_string") (codes "value") STD_ULOGIC STRING) ∷
    row Only2019 (function Brought (codes "to_string") (codes "value") STD_ULOGIC_VECTOR STRING) ∷
    row Both (operators Declared STD_ULOGIC None (group.Logic1164 ∷ [])) ∷
    row Both (operators Declared STD_ULOGIC_VECTOR None (group.Logic1164 ∷ [])) ∷
    row Only1993 (operators Declared STD_LOGIC_VECTOR None (group.Logic1164 ∷ [])) ∷
    row Only2019 (operators Declared STD_ULOGIC None (group.Xnor1164 ∷ group.Condition ∷ [])) ∷
    row Only2019 (operators Declared STD_ULOGIC_VECTOR (Some STD_ULOGIC) (group.Xnor1164 ∷ group.MixedLogic ∷ group.Reductions ∷ group.Shifts1164 ∷ [])) ∷
    row Both (function Declared (codes "rising_edge") (codes "s") STD_ULOGIC BOOLEAN) ∷
    row Both (function Declared (codes "falling_edge") (codes "s") STD_ULOGIC BOOLEAN) ∷
    []
