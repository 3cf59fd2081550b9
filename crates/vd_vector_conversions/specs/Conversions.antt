-- The tree in which the two vector types meet in conversions alone: where a place wants one and the expression is of the other, the expression stands in a
-- conversion. Each node has the type of its own flavour, and each operator is that of the flavour of its operands. (IEEE 1076, type conversions; port map
-- aspects.)
use Rattle.std.specs.Prelude.{ℕ, List, [], Option, Some, None, if◌then◌else◌}
use Rattle.vd_bytes.specs.declared.places.Place.{Place}
use Rattle.vd_forest.specs.Forest.{Forest, nothing, more, with_next}
use Rattle.vd_forms.specs.declared.form.Form.TheVariants as form
use Rattle.vd_resolved.specs.declared.node.Resolved.{Resolved}
use Rattle.vd_rewriting.specs.Inheriting.{Rules}
use Rattle.vd_rewriting.specs.Rewriting.{Pass}
use Rattle.vd_vector_conversions.specs.declared.facts.Facts.{Facts}
use Rattle.vd_vector_conversions.specs.declared.flavours.Flavour.{Flavour}
use Rattle.vd_vector_conversions.specs.declared.flavours.Flavour.TheVariants.{Logic, Ulogic}
use Rattle.vd_vector_conversions.specs.declared.inside.Inside.{Inside}
use Rattle.vd_vector_conversions.specs.declared.inside.Want.{Want}
use Rattle.vd_vector_conversions.specs.declared.inside.Want.TheVariants as want
use Rattle.vd_vector_conversions.specs.declared.naturals.Flavoured.{Flavoured}
use Rattle.vd_vector_conversions.specs.declared.sorts.Sort.{Sort}
use Rattle.vd_vector_conversions.specs.declared.sorts.Sort.TheVariants as sort
use Rattle.vd_vector_conversions.specs.Facts.{declared_mark, declared_name, flavour_numbered, twin_at}
use Rattle.vd_vector_conversions.specs.Flavours.{differing, is_vector, or_else, or_flavour, retyped, same_number, type_name, type_number}
use Rattle.vd_vector_conversions.specs.Naturals.{stepped}
use Rattle.vd_vector_conversions.specs.Ports.{formal_in}
use Rattle.vd_vector_conversions.specs.Sorts.{sort_of}
use Rattle.vd_vector_conversions.specs.Wants.{along, down, operands_flavour, wanted}

-- ---- conversions

abbrev pub resolved : Rattle.vd_forms.specs.declared.form.Form.Form → Option ℕ → Option ℕ → Resolved
resolved f declaration mark = record { form = f; declaration = declaration; mark = mark; position = 0 }

abbrev pub brackets : Flavour → Place → Forest Resolved → Forest Resolved
brackets to place operand = more (resolved form.Arguments (Some (type_number to)) (Some (type_number to))) [] place operand nothing

abbrev pub mark_word : Flavour → Place → Forest Resolved → Forest Resolved
mark_word to place next = more (resolved form.Identifier (Some (type_number to)) None) (type_name to) place nothing next

abbrev pub conversion : Flavour → Place → Forest Resolved → Forest Resolved → Forest Resolved
conversion to place operand next =
    more (resolved form.Name None (Some (type_number to))) [] place (mark_word to place (brackets to place operand)) next

-- ---- formals and actuals of ports

abbrev pub mark_or : Option Flavour → Option ℕ → Option ℕ
mark_or None mark = mark
mark_or (Some f) mark = Some (type_number f)

abbrev pub object_mark : Facts → ℕ → Option ℕ
object_mark k port = mark_or (flavour_numbered k port) (declared_mark k port)

-- the name of a port as an expression, and as a formal
abbrev pub object_name : Facts → ℕ → Place → Forest Resolved
object_name k port place =
    more (resolved form.Name None (object_mark k port)) [] place
    (more (resolved form.Identifier (Some port) (object_mark k port)) (declared_name k port) place nothing nothing) nothing

abbrev pub formal_plain : Facts → ℕ → Place → Forest Resolved → Forest Resolved
formal_plain k port place next =
    more (resolved form.Name (Some port) None) [] place (more (resolved form.Identifier None None) (declared_name k port) place nothing nothing) next

abbrev pub formal_converted : Facts → Flavour → ℕ → Place → Forest Resolved → Forest Resolved
formal_converted k to port place next = conversion to place (object_name k port place) next

abbrev pub formal_to : Option Flavour → Facts → ℕ → Place → Forest Resolved → Forest Resolved
formal_to None k port place next = formal_plain k port place next
formal_to (Some to) k port place next = formal_converted k to port place next

abbrev pub formal_by : Option ℕ → Facts → Option Flavour → Flavoured → List ℕ → Place → Forest Resolved → Forest Resolved → Forest Resolved
formal_by None k to n text place new next = more n.node text place new next
formal_by (Some port) k to n text place new next = formal_to to k port place next

abbrev pub formal_made : Facts → Option Flavour → Flavoured → List ℕ → Place → Forest Flavoured → Forest Resolved → Forest Resolved → Forest Resolved
formal_made k to n text place parts new next = formal_by (formal_in n.node.declaration parts) k to n text place new next

-- the parts of the last tree: what a conversion converts
abbrev pub last_parts : Forest Resolved → Forest Resolved
last_parts nothing = nothing
last_parts (more n text place parts nothing) = parts
last_parts (more n text place parts (more m words where' inner next)) = last_parts (more m words where' inner next)

abbrev pub bare_actual : Option Flavour → Place → Forest Resolved → Forest Resolved → Forest Resolved
bare_actual None place new next = with_next (last_parts new) next
bare_actual (Some to) place new next = conversion to place (last_parts new) next

-- ---- other nodes

-- the flavour of a vector where it stands
abbrev pub node_flavour : Facts → Want → Flavoured → Flavour
node_flavour k (want.Piece upto of_name) n = or_flavour (or_else (stepped k upto n).flavour of_name) Ulogic
node_flavour k w n = or_flavour (or_else n.flavour (wanted k w)) Ulogic

abbrev pub brackets_flavour : Facts → Want → Flavoured → Flavour
brackets_flavour k w n = or_flavour (or_else (wanted k w) n.flavour) Ulogic

abbrev pub mark_by : Sort → Facts → Want → Flavoured → Option ℕ
mark_by sort.Aggregated k w n = retyped n.node.mark (brackets_flavour k w n)
mark_by _ k w n = retyped n.node.mark (node_flavour k w n)

abbrev pub tagged_mark : Facts → Want → Flavoured → Option ℕ
tagged_mark k w n = mark_by (sort_of n.node.form) k w n

-- the operator of the flavour of its operands
abbrev pub operator_of : Flavour → ℕ → Option ℕ → Option ℕ
operator_of Logic twin d = Some twin
operator_of Ulogic twin d = d

abbrev pub operator_by : Option ℕ → Facts → Want → Resolved → Forest Flavoured → Option ℕ
operator_by None k w n operands = n.declaration
operator_by (Some twin) k w n operands = operator_of (operands_flavour k w n operands) twin n.declaration

abbrev pub operator_declaration : Facts → Want → Resolved → Forest Flavoured → Option ℕ
operator_declaration k w n operands = operator_by (twin_at k n.declaration) k w n operands

-- a name of an operator, in front of the brackets that call it
abbrev pub head_declaration : Facts → Option ℕ → Option ℕ → Option ℕ
head_declaration k named behind = if same_number (twin_at k named) behind then twin_at k named else named

abbrev pub first_named : Forest Resolved → Option ℕ
first_named nothing = None
first_named (more n text place parts next) = n.declaration

abbrev pub declaration_by : Sort → Facts → Want → Resolved → Forest Flavoured → Option ℕ → Option ℕ
declaration_by sort.Operator k w n parts behind = operator_declaration k w n parts
declaration_by sort.Bracketed k w n parts behind = operator_declaration k w n parts
declaration_by sort.Named k w n parts behind = head_declaration k n.declaration behind
declaration_by _ k w n parts behind = n.declaration

abbrev pub tagged_declaration : Facts → Want → Resolved → Forest Flavoured → Option ℕ → Option ℕ
tagged_declaration k w n parts behind = declaration_by (sort_of n.form) k w n parts behind

abbrev pub retagged : Facts → Want → Flavoured → Forest Flavoured → Option ℕ → Resolved
retagged k w n parts behind =
    record {
      form = n.node.form;
      declaration = tagged_declaration k w n.node parts behind;
      mark = tagged_mark k w n;
      position = n.node.position;
    }

-- the flavour to which a node is converted, where it is. What stands in brackets is converted there
abbrev pub wrapping_by : Sort → Facts → Want → Flavoured → Option Flavour
wrapping_by sort.Aggregated k w n = None
wrapping_by _ k w n = differing n.flavour (wanted k w)

abbrev pub wrapping : Facts → Want → Flavoured → Option Flavour
wrapping k w n = if is_vector n.node.mark then wrapping_by (sort_of n.node.form) k w n else None

abbrev pub wrapped : Option Flavour → Resolved → List ℕ → Place → Forest Resolved → Forest Resolved → Forest Resolved
wrapped None n text place new next = more n text place new next
wrapped (Some to) n text place new next = conversion to place (more n text place new nothing) next

abbrev pub node_made : Facts → Want → Flavoured → List ℕ → Place → Forest Flavoured → Forest Resolved → Forest Resolved → Forest Resolved
node_made k w n text place parts new next = wrapped (wrapping k w n) (retagged k w n parts (first_named next)) text place new next

-- ---- the pass

abbrev pub converted_by : Want → Facts → Pass Flavoured Resolved
converted_by (want.Formal to) k n text place parts new next = formal_made k to n text place parts new next
converted_by (want.Bare to) k n text place parts new next = bare_actual to place new next
converted_by w k n text place parts new next = node_made k w n text place parts new next

abbrev pub converting : Facts → Rules Flavoured Resolved Inside
converting k =
    record {
      down = λ s n text place parts. down k s n parts;
      along = λ s n text place parts. along k s n;
      pass = λ s. converted_by s.want k;
    }
