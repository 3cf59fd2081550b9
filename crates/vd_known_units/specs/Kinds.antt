-- What nodes declare, as the code tells it apart.
use Rattle.vd_known_units.specs.declared.kinds.Alone.{Alone}
use Rattle.vd_known_units.specs.declared.kinds.Alone.TheVariants as alone
use Rattle.vd_known_units.specs.declared.kinds.Declaring.{Declaring}
use Rattle.vd_known_units.specs.declared.kinds.Declaring.TheVariants as made
use Rattle.vd_known_units.specs.declared.kinds.Kept.{Kept}
use Rattle.vd_known_units.specs.declared.kinds.Kept.TheVariants as kept
use Rattle.vd_known_units.specs.declared.kinds.Objects.{Objects}
use Rattle.vd_known_units.specs.declared.kinds.Objects.TheVariants as objects
use Rattle.vd_value_rules.specs.Declaring as rules

abbrev pub alone_as : rules.Declaring → Alone
alone_as rules.AType = alone.Type
alone_as rules.ASubtype = alone.Subtype
alone_as rules.AGenericFunction = alone.GenericFunction
alone_as rules.FunctionInstance = alone.FunctionInstance
alone_as rules.Constants = alone.Objects objects.Constants
alone_as rules.Variables = alone.Objects objects.Variables
alone_as rules.SomeSignals = alone.Objects objects.Signals
alone_as rules.SomePorts = alone.Objects objects.Ports
alone_as rules.ViewPorts = alone.Objects objects.ViewPorts
alone_as rules.GenericConstants = alone.Objects objects.GenericConstants
alone_as rules.SomeParameters = alone.Objects objects.Parameters
alone_as _ = alone.Nothing

abbrev pub declaring_as : rules.Declaring → Declaring
declaring_as rules.InOrder = made.Kept kept.InOrder
declaring_as rules.APackage = made.Kept kept.Package
declaring_as rules.AFunction = made.Kept kept.Function
declaring_as rules.PackageInstance = made.PackageInstance
declaring_as k = made.Alone (alone_as k)

-- ---- and back

abbrev pub objects_of : Objects → rules.Declaring
objects_of objects.Constants = rules.Constants
objects_of objects.Variables = rules.Variables
objects_of objects.Signals = rules.SomeSignals
objects_of objects.Ports = rules.SomePorts
objects_of objects.ViewPorts = rules.ViewPorts
objects_of objects.GenericConstants = rules.GenericConstants
objects_of objects.Parameters = rules.SomeParameters

abbrev pub alone_of : Alone → rules.Declaring
alone_of alone.Nothing = rules.Nothing
alone_of alone.Type = rules.AType
alone_of alone.Subtype = rules.ASubtype
alone_of alone.GenericFunction = rules.AGenericFunction
alone_of alone.FunctionInstance = rules.FunctionInstance
alone_of (alone.Objects o) = objects_of o

abbrev pub kept_of : Kept → rules.Declaring
kept_of kept.InOrder = rules.InOrder
kept_of kept.Package = rules.APackage
kept_of kept.Function = rules.AFunction

abbrev pub declaring_of : Declaring → rules.Declaring
declaring_of (made.Alone a) = alone_of a
declaring_of (made.Kept k) = kept_of k
declaring_of made.PackageInstance = rules.PackageInstance
