-- What is declared, as it stands in both environments: by its subtype, and by whether it is declared inside of a process or a function.
use Rattle.std.specs.Prelude.{Bool, Some}
use Rattle.vd_composites.specs.Composites.{Value}
use Rattle.vd_environments.specs.Environments.{Denotation, Indicated, Static, nothing_denoted}
use Rattle.vd_value_rules.specs.Made.{object_of}
use Rattle.vd_known_designs.specs.Tables.{declared_in}
use Rattle.vd_value_rules.specs.Knowledge.{shaped_signals}
use Rattle.vd_values.specs.declared.scalar.Scalar.{Scalar}

-- with a subtype as it is where it is declared
abbrev pub subtype_denoted : Indicated → Denotation
subtype_denoted i = record nothing_denoted { subtype = i.subtype; make = i.make }

abbrev pub type_denoted : Bool → Indicated → Denotation
type_denoted is_inside i = subtype_denoted (declared_in is_inside i)

abbrev pub object_denoted : Bool → Indicated → Value Scalar → Static → Denotation
object_denoted is_inside i v known = record (subtype_denoted (declared_in is_inside (object_of i))) { value = v; known = known }

abbrev pub signal_denoted : Indicated → Denotation
signal_denoted i = record (subtype_denoted i) { signals = Some (shaped_signals i) }
