-- What is read of modes: those that elaboration has.
use Rattle.vd_meaning.specs.Building.{Mode}
use Rattle.vd_meaning.specs.Building as elaborated
use Rattle.vd_meaning.specs.NodeFacets.{ByMode, ElementMode}
use Rattle.vd_meaning.specs.NodeFacets as facets
use Rattle.vd_port_lists.specs.declared.modes.Mode.{Mode as WrittenMode}
use Rattle.vd_port_lists.specs.declared.modes.Mode.TheVariants.{BothWays, Input, Output}
use Rattle.vd_port_lists.specs.declared.modes.PortMode.{PortMode}
use Rattle.vd_port_lists.specs.declared.modes.PortMode.TheVariants.{ByView, Plain}

abbrev pub read_plain : WrittenMode → Mode
read_plain Input = elaborated.Input
read_plain Output = elaborated.Output
read_plain BothWays = elaborated.BothWays

abbrev pub read_mode : PortMode → ElementMode
read_mode (Plain mode) = ByMode (read_plain mode)
read_mode (ByView view is_converse) = facets.ByView view is_converse
