-- Which flavour the place of an expression wants: the value of an assignment that of the target, an argument that of the parameter, an element of an
-- aggregate that of the array's or record's element, an operand that of the first operand that has one, and so on.
use Rattle.std.specs.Prelude.{ℕ, ◌+◌, nat_lt, Bool, true, false, Option, Some, None, if◌then◌else◌}
use Rattle.vd_declarations.specs.declared.classes.Class.{Class}
use Rattle.vd_declarations.specs.declared.classes.Class.TheVariants as class
use Rattle.vd_forest.specs.Forest.{Forest, nothing, more, skipped}
use Rattle.vd_resolved.specs.declared.node.Resolved.{Resolved}
use Rattle.vd_vector_conversions.specs.declared.facts.Facts.{Facts}
use Rattle.vd_vector_conversions.specs.declared.flavours.Flavour.{Flavour}
use Rattle.vd_vector_conversions.specs.declared.flavours.Flavour.TheVariants.{Ulogic}
use Rattle.vd_vector_conversions.specs.declared.naturals.Flavoured.{Flavoured}
use Rattle.vd_vector_conversions.specs.declared.sorts.Sort.{Sort}
use Rattle.vd_vector_conversions.specs.declared.sorts.Sort.TheVariants as sort
use Rattle.vd_vector_conversions.specs.declared.inside.Inside.{Inside}
use Rattle.vd_vector_conversions.specs.declared.inside.Want.{Want}
use Rattle.vd_vector_conversions.specs.declared.inside.Want.TheVariants as want
use Rattle.vd_vector_conversions.specs.Facts.{class_at, element_flavour, flavour_at, flavour_numbered, listed_flavour, twin_at}
use Rattle.vd_vector_conversions.specs.Flavours.{is_vector, or_else, or_flavour}
use Rattle.vd_vector_conversions.specs.Naturals.{flavour_of, is_one_value, operand_flavour, start, stepped}
use Rattle.vd_vector_conversions.specs.Ports.{tied}
use Rattle.vd_vector_conversions.specs.Sorts.{sort_of}

abbrev pub want_of : Option Flavour → Want
want_of None = want.Nothing
want_of (Some f) = want.Vector f

-- what is wanted of a node itself, and of the name of which it is a piece
abbrev pub wanted : Facts → Want → Option Flavour
wanted k (want.Vector f) = Some f
wanted k (want.Listed owner index) = listed_flavour k owner index
wanted k (want.Chosen values choices) = values
wanted k _ = None

abbrev pub whole_wanted : Facts → Want → Option Flavour
whole_wanted k (want.Piece upto of_name) = of_name
whole_wanted k w = wanted k w

-- an expression whose place wants nothing is of its own flavour, or else of STD_ULOGIC_VECTOR
abbrev pub settled_node : Flavoured → Option Flavour
settled_node n = if is_vector n.node.mark then Some (or_flavour n.flavour Ulogic) else n.flavour

abbrev pub settled : Forest Flavoured → Option Flavour
settled nothing = None
settled (more n text place parts next) = settled_node n

-- ---- operands and arguments

abbrev pub result_wanted : Facts → Want → Option ℕ → Option Flavour
result_wanted k w mark = if is_vector mark then whole_wanted k w else None

abbrev pub operands_flavour : Facts → Want → Resolved → Forest Flavoured → Flavour
operands_flavour k w n operands =
    or_flavour (or_else (operand_flavour operands) (result_wanted k w n.mark)) Ulogic

abbrev pub listed_want : Option ℕ → Want
listed_want None = want.Nothing
listed_want (Some function) = want.Listed function 0

abbrev pub called_want_by : Option ℕ → Facts → Want → Resolved → Forest Flavoured → Want
called_want_by None k w n operands = listed_want n.declaration
called_want_by (Some twin) k w n operands = want.Vector (operands_flavour k w n operands)

abbrev pub called_want : Facts → Want → Resolved → Forest Flavoured → Want
called_want k w n operands = called_want_by (twin_at k n.declaration) k w n operands

-- ---- brackets and elements in them

abbrev pub elements_by : Class → Facts → ℕ → Want
elements_by (class.ArrayType index element element_mark) k n = want_of (element_flavour k (Some n))
elements_by class.RecordType k n = want.Listed n 0
elements_by _ k n = want.Nothing

abbrev pub elements_want : Facts → Option ℕ → Want
elements_want k None = want.Nothing
elements_want k (Some n) = elements_by (class_at k n) k n

abbrev pub brackets_want : Facts → Option Flavour → Resolved → Forest Flavoured → Want
brackets_want k f n parts = if is_one_value parts then want_of f else elements_want k n.mark

abbrev pub element_want : Facts → Want → Flavoured → Forest Flavoured → Want
element_want k want.Ports n parts = tied k parts
element_want k (want.Vector f) n parts = want.Vector (or_flavour n.flavour f)
element_want k _ n parts = want_of n.flavour

abbrev pub others_want : Facts → Want → Want
others_want k (want.Vector f) = want.Vector f
others_want k (want.Listed owner index) = want_of (flavour_numbered k owner)
others_want k _ = want.Nothing

abbrev pub formals_want : Want → Want
formals_want (want.Tied formal actual is_bare) = want.Formal formal
formals_want _ = want.Nothing

abbrev pub alternative_want : Want → Want
alternative_want (want.Choosing values choices) = want.Chosen values choices
alternative_want _ = want.Nothing

-- ---- the parts of a node

abbrev pub expression_want : Sort → Facts → Want → Flavoured → Forest Flavoured → Want
expression_want sort.Whole k w n parts = want.Piece start (wanted k w)
expression_want sort.Bracketed k w n parts = called_want k w n.node parts
expression_want sort.Operator k w n parts = called_want k w n.node parts
expression_want sort.Aggregated k w n parts = brackets_want k (wanted k w) n.node parts
expression_want sort.Qualified k w n parts = brackets_want k n.flavour n.node parts
expression_want sort.Element k w n parts = element_want k w n parts
expression_want sort.Others k w n parts = others_want k w
expression_want sort.Formals k w n parts = formals_want w
expression_want sort.Ports k w n parts = want.Ports
expression_want _ k w n parts = want.Nothing

abbrev pub want_by : Sort → Facts → Inside → Flavoured → Forest Flavoured → Want
want_by (sort.Like place) k s n parts = want_of (settled (skipped place parts))
want_by sort.Selected k s n parts = want.Choosing (settled (skipped 2 parts)) (settled parts)
want_by sort.Alternative k s n parts = alternative_want s.want
want_by sort.Passing k s n parts = want_of (wanted k s.want)
want_by sort.Returning k s n parts = want_of s.result
want_by other k s n parts = expression_want other k s.want n parts

abbrev pub want_in : Facts → Inside → Flavoured → Forest Flavoured → Want
want_in k s n parts = want_by (sort_of n.node.form) k s n parts

-- what a function gives is of the flavour of its result mark
abbrev pub result_by : Sort → Option Flavour → Forest Flavoured → Option Flavour
result_by sort.Body f parts = flavour_of (skipped 5 parts)
result_by _ f parts = f

abbrev pub result_in : Option Flavour → Flavoured → Forest Flavoured → Option Flavour
result_in f n parts = result_by (sort_of n.node.form) f parts

abbrev pub down : Facts → Inside → Flavoured → Forest Flavoured → Inside
down k s n parts = record { want = want_in k s n parts; result = result_in s.result n parts }

-- ---- the tree behind a node

abbrev pub position_after : ℕ → ℕ
position_after index = if nat_lt index 4294967295 then index + 1 else index

abbrev pub actual_want : Option Flavour → Bool → Want
actual_want to true = want.Bare to
actual_want to false = want_of to

abbrev pub want_along : Facts → Want → Flavoured → Want
want_along k (want.Piece upto of_name) n = want.Piece (stepped k upto n) of_name
want_along k (want.Listed owner index) n = want.Listed owner (position_after index)
want_along k (want.Chosen values choices) n = want_of choices
want_along k (want.Tied formal actual is_bare) n = actual_want actual is_bare
want_along k w n = w

abbrev pub along : Facts → Inside → Flavoured → Inside
along k s n = record { want = want_along k s.want n; result = s.result }
