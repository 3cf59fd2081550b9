-- How the formal and the actual of a port are converted. In the text of 1993 an actual of mode `in` may be one conversion of a signal's name, the formal of
-- mode `out` stands in a conversion to the type of the actual, and for `inout` each stands in one to the type of the other.
use Rattle.std.specs.Prelude.{ℕ, ◌==◌, ◌||◌, Bool, true, false, Option, Some, None, if◌then◌else◌}
use Rattle.vd_forest.specs.Forest.{Forest, nothing, more, parts_of, next_of}
use Rattle.vd_predefined.specs.declared.numbers.TheConstants.{STD_ULOGIC_VECTOR, STD_LOGIC_VECTOR}
use Rattle.vd_vector_conversions.specs.declared.facts.Facts.{Facts}
use Rattle.vd_vector_conversions.specs.declared.facts.Mode.{Mode}
use Rattle.vd_vector_conversions.specs.declared.facts.Mode.TheVariants as mode
use Rattle.vd_vector_conversions.specs.declared.flavours.Flavour.{Flavour}
use Rattle.vd_vector_conversions.specs.declared.naturals.Flavoured.{Flavoured}
use Rattle.vd_vector_conversions.specs.declared.sorts.Sort.{Sort}
use Rattle.vd_vector_conversions.specs.declared.sorts.Sort.TheVariants as sort
use Rattle.vd_vector_conversions.specs.declared.inside.Want.{Want}
use Rattle.vd_vector_conversions.specs.declared.inside.Want.TheVariants as want
use Rattle.vd_vector_conversions.specs.Facts.{flavour_at, is_signal, mode_at}
use Rattle.vd_vector_conversions.specs.Flavours.{differing, is_vector}
use Rattle.vd_vector_conversions.specs.Naturals.{first_declaration, flavour_of, last_tree}
use Rattle.vd_vector_conversions.specs.Sorts.{sort_of}

-- ---- the port: that which the formal names, or else that which it converts

abbrev pub formal_in : Option ℕ → Forest Flavoured → Option ℕ
formal_in (Some port) parts = Some port
formal_in None parts = first_declaration (parts_of (parts_of (last_tree parts)))

abbrev pub formal_of : Forest Flavoured → Option ℕ
formal_of formals = formal_in (first_declaration (parts_of formals)) (parts_of (parts_of formals))

-- ---- an actual that is a conversion of a signal already

abbrev pub is_conversion_mark : Option ℕ → Bool
is_conversion_mark None = false
is_conversion_mark (Some n) = (n == STD_ULOGIC_VECTOR) || (n == STD_LOGIC_VECTOR)

abbrev pub declaration_by : Sort → Option ℕ → Option ℕ
declaration_by sort.Bracketed d = d
declaration_by _ d = None

abbrev pub bracketed_declaration : Forest Flavoured → Option ℕ
bracketed_declaration nothing = None
bracketed_declaration (more n text place parts next) = declaration_by (sort_of n.node.form) n.node.declaration

abbrev pub is_conversion_by : Sort → Forest Flavoured → Bool
is_conversion_by sort.Whole parts = is_conversion_mark (bracketed_declaration (last_tree parts))
is_conversion_by _ parts = false

abbrev pub is_conversion : Forest Flavoured → Bool
is_conversion nothing = false
is_conversion (more n text place parts next) = is_conversion_by (sort_of n.node.form) parts

abbrev pub operand_of : Forest Flavoured → Forest Flavoured
operand_of actual = parts_of (last_tree (parts_of actual))

abbrev pub is_converted_signal : Facts → Forest Flavoured → Bool
is_converted_signal k actual = if is_conversion actual then is_signal k (first_declaration (parts_of (operand_of actual))) else false

abbrev pub bare_node : Option Flavour → Flavoured → Option Flavour
bare_node port n = if is_vector n.node.mark then differing n.flavour port else port

abbrev pub bare_target : Option Flavour → Forest Flavoured → Option Flavour
bare_target port nothing = None
bare_target port (more n text place parts next) = bare_node port n

-- ---- by mode

abbrev pub is_bare_in : Facts → Option Flavour → Forest Flavoured → Bool
is_bare_in k None actual = false
is_bare_in k (Some port) actual = is_converted_signal k actual

abbrev pub tied_in : Facts → Option Flavour → Forest Flavoured → Want
tied_in k port actual =
    if is_bare_in k port actual then want.Tied None (bare_target port (operand_of actual)) true else want.Tied None port false

abbrev pub out_formal : Option Flavour → Option Flavour → Option Flavour
out_formal None actual = actual
out_formal (Some port) actual = differing (Some port) actual

abbrev pub both_ways : Option Flavour → Option Flavour → Want
both_ways None port = want.Tied None None false
both_ways (Some formal) port = want.Tied (Some formal) port false

abbrev pub tied_inout : Option Flavour → Option Flavour → Want
tied_inout port actual = both_ways (out_formal port actual) port

abbrev pub tied_by : Mode → Facts → Option Flavour → Forest Flavoured → Want
tied_by mode.In k port actual = tied_in k port actual
tied_by mode.Out k port actual = want.Tied (out_formal port (flavour_of actual)) None false
tied_by mode.InOut k port actual = tied_inout port (flavour_of actual)

abbrev pub tied : Facts → Forest Flavoured → Want
tied k parts = tied_by (mode_at k (formal_of parts)) k (flavour_at k (formal_of parts)) (next_of parts)
