-- No region is lost while the tables are read.
use Rattle.std.proofs.Common.{◌≤◌, ℕ, List, [], ◌∷◌, length, Option, Some, None, false, arith}
use Rattle.std.proofs.lemmas.List.{length_push}
use Rattle.vd_declarations.specs.declared.classes.Class.{Class}
use Rattle.vd_declarations.specs.declared.classes.Class.TheVariants as class
use Rattle.vd_regions.specs.Scopes.{Scopes}
use Rattle.vd_predefined.specs.declared.numbers.TheConstants.{INTEGER}
use Rattle.vd_predefined.specs.declared.operators.Group.{Group}
use Rattle.vd_predefined.specs.declared.operands.Operands.{Operands}
use Rattle.vd_predefined.specs.Lines.{OperatorLine, GivenLine}
use Rattle.vd_predefined.specs.Lines.{enumeration, integer, physical, subtype, array, operators, function}
use Rattle.vd_predefined.specs.Table.{operators_in}
use Rattle.vd_predefined.specs.Entries.{declared, with_entry, with_values}
use Rattle.vd_predefined.specs.Operators.{with_pair, with_pair_of, with_operands, operands_of, operator_of, with_group, with_groups, with_operators}
use Rattle.vd_predefined.specs.Given.{class_of, with_line}

abbrev pub Grows : Scopes → Scopes → Type 0
Grows s t = length s.regions ≤ length t.regions

grows_both : (s t u : Scopes) → Grows s t → Grows t u → Grows s u
grows_both s t u a b = omega (arith, a, b)

grows_same : (s : Scopes) → Grows s s
grows_same s = omega arith

values_grow : (s : Scopes) (region : ℕ) (c : Class) (own : ℕ) (names : List (List ℕ)) → Grows s (with_values s region c own names)
values_grow s region c own [] = omega arith
values_grow s region c own (name ∷ names) = values_grow (with_entry s region (declared c name (Some own) [])) region c own names

pair_grows : (s : Scopes) (region t : ℕ) → Grows s (with_pair s region t)
pair_grows s region t = omega (arith, length_push s.regions (record { outer = region; continues = None; closed = false; uses = [] }))

pair_of_grows : (s : Scopes) (region : ℕ) (t : Option ℕ) → Grows s (with_pair_of s region t)
pair_of_grows s region None = omega arith
pair_of_grows s region (Some t) = pair_grows s region t

operands_grow : (s : Scopes) (region own : ℕ) (element : Option ℕ) → Grows s (with_operands s region own element)
operands_grow s region own element =
    let a : Grows s (with_pair s region own) = pair_grows s region own in
    let b : Grows (with_pair s region own) (with_pair_of (with_pair s region own) region element) = pair_of_grows (with_pair s region own) region element in
    let c : Grows (with_pair_of (with_pair s region own) region element) (with_operands s region own element) =
    pair_grows (with_pair_of (with_pair s region own) region element) region INTEGER in
    grows_both s (with_pair_of (with_pair s region own) region element) (with_operands s region own element)
    (grows_both s (with_pair s region own) (with_pair_of (with_pair s region own) region element) a b) c

group_grows : (s : Scopes) (region : ℕ) (c : Class) (o : Operands) (os : List OperatorLine) → Grows s (with_group s region c o os)
group_grows s region c o [] = omega arith
group_grows s region c o (first ∷ os) = group_grows (with_entry s region (operator_of c o first)) region c o os

groups_grow : (s : Scopes) (region : ℕ) (c : Class) (o : Operands) (groups : List Group) → Grows s (with_groups s region c o groups)
groups_grow s region c o [] = omega arith
groups_grow s region c o (group ∷ groups) =
    grows_both s (with_group s region c o (operators_in group)) (with_groups (with_group s region c o (operators_in group)) region c o groups) (group_grows s region c o (operators_in group))
    (groups_grow (with_group s region c o (operators_in group)) region c o groups)

operators_grow : (s : Scopes) (region : ℕ) (c : Class) (own : ℕ) (element : Option ℕ) (groups : List Group)
    → Grows s (with_operators s region c own element groups)
operators_grow s region c own element groups =
    grows_both s (with_operands s region own element)
    (with_groups (with_operands s region own element) region c (operands_of s region own element) groups) (operands_grow s region own element)
    (groups_grow (with_operands s region own element) region c (operands_of s region own element) groups)

pub line_grows : (s : Scopes) (region : ℕ) (l : GivenLine) → Grows s (with_line s region l)
line_grows s region (enumeration name literals) =
    values_grow (with_entry s region (declared class.EnumerationType name None [])) region class.EnumerationLiteral (length s.entered) literals
line_grows s region (integer name) = grows_same s
line_grows s region (physical name units) =
    values_grow (with_entry s region (declared class.PhysicalType name None [])) region class.PhysicalUnit (length s.entered) units
line_grows s region (subtype name mark base) = grows_same s
line_grows s region (array name element element_mark) = grows_same s
line_grows s region (operators origin own element groups) = operators_grow s region (class_of origin) own element groups
line_grows s region (function origin name parameter own result) =
    omega (arith, length_push s.regions (record { outer = region; continues = None; closed = false; uses = [] }))
