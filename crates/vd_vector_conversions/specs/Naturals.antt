-- Of which flavour an expression is by itself: an object is of the flavour of its mark, a call of that of the function's result, and an operator on both
-- flavours of that of its first operand that has one. Literals and aggregates are of both.
use Rattle.std.specs.Prelude.{ℕ, Bool, true, false, List, Option, Some, None, if◌then◌else◌}
use Rattle.vd_bytes.specs.declared.places.Place.{Place}
use Rattle.vd_forest.specs.Forest.{Forest, nothing, more, parts_of, next_of, skipped}
use Rattle.vd_resolved.specs.declared.node.Resolved.{Resolved}
use Rattle.vd_rewriting.specs.Rewriting.{Pass}
use Rattle.vd_vector_conversions.specs.declared.facts.Facts.{Facts}
use Rattle.vd_vector_conversions.specs.declared.flavours.Flavour.{Flavour}
use Rattle.vd_vector_conversions.specs.declared.naturals.Flavoured.{Flavoured}
use Rattle.vd_vector_conversions.specs.declared.naturals.Upto.{Upto}
use Rattle.vd_vector_conversions.specs.declared.sorts.Sort.{Sort}
use Rattle.vd_vector_conversions.specs.declared.sorts.Sort.TheVariants as sort
use Rattle.vd_vector_conversions.specs.Facts.{element_flavour, flavour_at, twin_at}
use Rattle.vd_vector_conversions.specs.Flavours.{is_vector, or_else, same_number}
use Rattle.vd_vector_conversions.specs.Sorts.{sort_of}

-- ---- of the first tree

abbrev pub flavour_of : Forest Flavoured → Option Flavour
flavour_of nothing = None
flavour_of (more n text place parts next) = n.flavour

abbrev pub first_declaration : Forest Flavoured → Option ℕ
first_declaration nothing = None
first_declaration (more n text place parts next) = n.node.declaration

abbrev pub is_nothing : Forest Flavoured → Bool
is_nothing nothing = true
is_nothing (more n text place parts next) = false

-- the last tree
abbrev pub last_tree : Forest Flavoured → Forest Flavoured
last_tree nothing = nothing
last_tree (more n text place parts nothing) = more n text place parts nothing
last_tree (more n text place parts (more m words where' inner next)) = last_tree (more m words where' inner next)

-- ---- elements in brackets

abbrev pub is_value_before : Sort → Forest Flavoured → Bool
is_value_before sort.Element next = false
is_value_before sort.Others next = false
is_value_before _ next = is_nothing next

-- one expression
abbrev pub is_one_value : Forest Flavoured → Bool
is_one_value nothing = false
is_one_value (more n text place parts next) = is_value_before (sort_of n.node.form) next

abbrev pub bracketed_flavour : Forest Flavoured → Option Flavour
bracketed_flavour f = if is_one_value f then flavour_of f else None

-- of what the first choice names
abbrev pub choice_flavour : Facts → Forest Flavoured → Option Flavour
choice_flavour k parts = flavour_at k (first_declaration (parts_of parts))

-- ---- calls and operators

abbrev pub operand_flavour : Forest Flavoured → Option Flavour
operand_flavour operands = or_else (flavour_of operands) (flavour_of (next_of operands))

abbrev pub called_by : Option ℕ → Facts → Resolved → Forest Flavoured → Option Flavour
called_by None k n operands = flavour_at k n.declaration
called_by (Some twin) k n operands = if is_vector n.mark then operand_flavour operands else None

abbrev pub called_flavour : Facts → Resolved → Forest Flavoured → Option Flavour
called_flavour k n operands = called_by (twin_at k n.declaration) k n operands

-- ---- names, piece by piece

abbrev pub start : Upto
start = record { mark = None; flavour = None }

abbrev pub own_step : Flavoured → Upto
own_step n = record { mark = n.node.mark; flavour = n.flavour }

-- a call or a conversion; or a slice, which is of the type that the name has so far, or an element
abbrev pub part_flavour : Facts → Upto → Option ℕ → Option Flavour
part_flavour k u mark = if same_number mark u.mark then u.flavour else element_flavour k u.mark

abbrev pub bracketed_by : Option ℕ → Facts → Upto → Flavoured → Upto
bracketed_by (Some d) k u n = own_step n
bracketed_by None k u n = record { mark = n.node.mark; flavour = part_flavour k u n.node.mark }

abbrev pub bracketed_step : Facts → Upto → Flavoured → Upto
bracketed_step k u n = bracketed_by n.node.declaration k u n

abbrev pub step_by : Sort → Facts → Upto → Flavoured → Upto
step_by sort.Bracketed k u n = bracketed_step k u n
step_by _ k u n = own_step n

abbrev pub stepped : Facts → Upto → Flavoured → Upto
stepped k u n = step_by (sort_of n.node.form) k u n

abbrev pub named_upto : Facts → Upto → Forest Flavoured → Upto
named_upto k u nothing = u
named_upto k u (more n text place parts next) = named_upto k (stepped k u n) next

abbrev pub name_flavour : Facts → Forest Flavoured → Option Flavour
name_flavour k pieces = (named_upto k start pieces).flavour

-- ---- nodes

abbrev pub natural_by : Sort → Facts → Resolved → Forest Flavoured → Option Flavour
natural_by sort.Whole k n new = name_flavour k new
natural_by sort.Named k n new = flavour_at k n.declaration
natural_by sort.Qualified k n new = flavour_at k n.declaration
natural_by sort.Bracketed k n new = called_flavour k n new
natural_by sort.Operator k n new = called_flavour k n new
natural_by sort.Aggregated k n new = bracketed_flavour new
natural_by sort.Indicated k n new = flavour_of new
natural_by sort.Element k n new = choice_flavour k new
natural_by (sort.Like place) k n new = flavour_of (skipped place new)
natural_by _ k n new = None

abbrev pub natural : Facts → Resolved → Forest Flavoured → Option Flavour
natural k n new = natural_by (sort_of n.form) k n new

abbrev pub flavoured_node : Facts → Resolved → Forest Flavoured → Flavoured
flavoured_node k n new = record { node = n; flavour = natural k n new }

-- each node with its flavour
abbrev pub flavoured : Facts → Pass Resolved Flavoured
flavoured k n text place parts new next = more (flavoured_node k n new) text place new next
