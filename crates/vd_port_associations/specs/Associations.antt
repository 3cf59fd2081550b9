-- What values of the code are read as. Of an actual the first tree counts alone.
use Rattle.std.specs.Prelude.{◌&&◌, ◌≡◌, ◌∷◌, Bool, List, None, Option, Some, [], if◌then◌else◌, ℕ}
use Rattle.vd_bytes.specs.declared.places.Place.{Place}
use Rattle.vd_forest.specs.Forest.{Forest, more, nothing, parts_of}
use Rattle.vd_port_associations.specs.declared.actuals.ActualSort.{ActualSort as WrittenActual}
use Rattle.vd_port_associations.specs.declared.actuals.ActualSort.TheVariants as actual
use Rattle.vd_port_associations.specs.declared.actuals.SignalName.{SignalName}
use Rattle.vd_port_associations.specs.declared.associations.PortAssociation.{PortAssociation as WrittenAssociation}
use Rattle.vd_port_associations.specs.declared.brackets.LastBrackets.{LastBrackets as WrittenBrackets}
use Rattle.vd_port_associations.specs.declared.formals.FormalSort.{FormalSort as WrittenFormal}
use Rattle.vd_port_associations.specs.declared.formals.FormalSort.TheVariants as formal
use Rattle.vd_port_modes.specs.Readings.{read_reached}
use Rattle.vd_resolved.specs.declared.node.Resolved.{Resolved}
use Rattle.vd_value_rules.specs.Actuals.{ActualSort, AnExpression, ConvertedPort, FormalSort, LastBrackets, NoActual, NoFormal, PortAssociation, SignalConverted, SignalNamed, SignalPassed, WholePort, converted_port, last_brackets, port_in_brackets}
use Rattle.vd_value_rules.specs.Designs.{Design}
use Rattle.vd_value_rules.specs.Reaching.{Reached, is_signal_name}

abbrev pub read_brackets : Option WrittenBrackets → Option LastBrackets
read_brackets None = None
read_brackets (Some b) = Some (record { declaration = b.declaration; elements = b.elements })

abbrev pub read_formal : WrittenFormal → FormalSort
read_formal (formal.WholePort port) = WholePort port
read_formal (formal.ConvertedPort mark port) = ConvertedPort mark port
read_formal formal.NoFormal = NoFormal

-- what choices are that are no whole port
abbrev pub bracketed_formal : Design → List ℕ → Forest Resolved → FormalSort
bracketed_formal d ports choices =
    converted_port d ports (last_brackets (parts_of choices)) (port_in_brackets d ports (last_brackets (parts_of choices)))

-- ---- elements

abbrev pub alone : Forest Resolved → Forest Resolved
alone nothing = nothing
alone (more n text place parts next) = more n text place parts nothing

pub record IsAssociation (x : WrittenAssociation) (a : PortAssociation) : Type 0 where
  pub place : a.place ≡ x.place
  pub formal : a.formal ≡ read_formal x.formal
  pub actual : alone a.actual ≡ alone x.actual

abbrev pub AreAssociations : List WrittenAssociation → List PortAssociation → Type 0
AreAssociations [] [] = Unit {0}
AreAssociations (x ∷ xs) (a ∷ as') = IsAssociation x a × AreAssociations xs as'
AreAssociations _ _ = ⊥

-- ---- actuals

abbrev pub read_actual : WrittenActual → ActualSort
read_actual actual.NoActual = NoActual
read_actual (actual.SignalNamed place name) = SignalNamed place (read_reached name)
read_actual (actual.SignalConverted mark place name) = SignalConverted mark place (read_reached name)
read_actual actual.SignalPassed = SignalPassed
read_actual (actual.AnExpression place name) = AnExpression place (read_reached name)

abbrev pub read_actual_some : Option WrittenActual → Option ActualSort
read_actual_some None = None
read_actual_some (Some x) = Some (read_actual x)

-- a signal that is named as such
abbrev pub read_signal : Option SignalName → Option ActualSort
read_signal None = None
read_signal (Some x) = Some (SignalNamed x.place (read_reached x.name))

abbrev pub signal_named_if : Design → Place → Reached → Bool → Option ActualSort
signal_named_if d place r is_whole = if is_signal_name d r && is_whole then Some (SignalNamed place r) else None
