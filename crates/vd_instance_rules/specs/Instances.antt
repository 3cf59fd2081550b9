-- Instances and their associations, in memory.
use Rattle.std.specs.Prelude.{◌≡◌, ◌&&◌, ◌++◌, ◌||◌, Bool, List, None, Option, Some, [], if◌then◌else◌, not, ◌∷◌, ℕ}
use Rattle.std.specs.List.{list_any}
use Rattle.vd_bytes.specs.declared.answers.Refused.{Refused}
use Rattle.vd_bytes.specs.declared.places.Place.{Place}
use Rattle.vd_meaning.specs.Building.{Mode}
use Rattle.vd_environments.specs.Environments.{Env}
use Rattle.vd_forest.specs.Forest.{Forest}
use Rattle.vd_instance_rules.specs.declared.instance.Instance.{Instance}
use Rattle.vd_meaning.specs.Facets.{nth}
use Rattle.vd_meaning.specs.Meanings.{meanings}
use Rattle.vd_meaning.specs.Names.{number_or}
use Rattle.vd_meaning.specs.Tables.{Table, is_vector}
use Rattle.vd_port_associations.specs.Associations.{read_formal}
use Rattle.vd_port_associations.specs.Numbers.{Holds}
use Rattle.vd_port_associations.specs.declared.associations.PortAssociation.{PortAssociation as WrittenAssociation}
use Rattle.vd_port_modes.specs.Source.{design_in}
use Rattle.vd_resolved.specs.declared.node.Resolved.{Resolved}
use Rattle.vd_value_rules.specs.Actuals.{PortAssociation, PortMap, actual_broken, actual_sort, are_known, for_port, generic_actuals_of, is_missing, is_open_actual, may_be_converted, port_of_formal, signal_broken, takes_conversion}
use Rattle.vd_value_rules.specs.Designs.{Design, Oriented, mode_of_port}
use Rattle.vd_value_rules.specs.Judging.{refused_if}
use Rattle.vd_value_rules.specs.Names.{may_be_driven}
use Rattle.vd_value_rules.specs.Reaching.{Reached}

-- ---- instances

abbrev pub entity_at : Table → Forest Resolved → ℕ
entity_at t parts = number_or (nth 0 (meanings t parts)).declaration

-- the design that an instance stands in
abbrev pub design_at : Instance → Design
design_at x = design_in x.interfaces.now

abbrev pub port_map_at : Instance → PortMap
port_map_at x = record { entity = x.entity; generic_actuals = generic_actuals_of (design_at x) x.parts; place = x.place }

-- all of it is of one design
pub record IsInstance (x : Instance) : Type 0 where
  pub same : x.facts.now ≡ x.interfaces.now
  pub generics : Holds x.generics ((design_at x).table.declared x.entity).generics

-- ---- associations, of whose actuals the first tree counts alone

abbrev pub read_association : WrittenAssociation → PortAssociation
read_association x = record { place = x.place; formal = read_formal x.formal; actual = x.actual }

abbrev pub read_associations : List WrittenAssociation → List PortAssociation
read_associations [] = []
read_associations (x ∷ xs) = read_association x ∷ read_associations xs

-- the ports that they are for
abbrev pub with_port : Option ℕ → List ℕ → List ℕ
with_port None ns = ns
with_port (Some n) ns = n ∷ ns

abbrev pub ports_for : List PortAssociation → List ℕ
ports_for [] = []
ports_for (a ∷ as') = with_port (port_of_formal a.formal) (ports_for as')

-- ---- what is broken

-- a signal that has a view where none is taken may not be named, and any other has to agree
abbrev pub whole_or_disagrees : Bool → Design → Oriented → Place → Reached → List Refused
whole_or_disagrees is_whole d formal place r = refused_if is_whole place 308 ++ (if is_whole then [] else signal_broken d formal place r)

-- an actual for the port that an association is for
abbrev pub actual_for_port : Design → Env → PortMap → PortAssociation → List Refused
actual_for_port d e x a = for_port (λ port. actual_broken d e x port a (mode_of_port d port) (actual_sort d e a.actual)) (port_of_formal a.formal)

-- what a converted formal breaks
abbrev pub is_wrongly_converted : Design → ℕ → ℕ → Forest Resolved → Bool
is_wrongly_converted d mark port actual = is_open_actual actual || not (is_vector mark && may_be_converted d port (mode_of_port d port))

-- what is left out, where each port is known that an association is for
abbrev pub missing_broken : Design → PortMap → List PortAssociation → List ℕ → Forest Resolved → List Refused
missing_broken d x as' ports elements = refused_if (are_known as' elements && list_any (is_missing d as') ports) x.place 310

-- what a conversion of a signal breaks for a port that drives it, by the places of the signal and of the association
abbrev pub converted_output : Design → Mode → ℕ → Place → Reached → Place → List Refused
converted_output d m mark place r association =
    if takes_conversion d.revision m && is_vector mark then refused_if (not (may_be_driven d r)) place 402 else record { place = association; rule = 310 } ∷ []
