-- The facts, computed.
use Rattle.std.proofs.Common.{refl}
use Rattle.std.specs.Fmt.{digits}
use Rattle.vd_predefined.specs.Table.{standard_types, standard_operators, logic_types, logic_operators}
use Rattle.vd_elaboration_facts.specs.Designs.{Designs}
use Rattle.vd_elaboration_facts.specs.Hierarchies.{Hierarchies}

pub designs : Designs
unfolding standard_types standard_operators logic_types logic_operators digits
designs = record { trace = refl }

pub hierarchies : Hierarchies
unfolding standard_types standard_operators logic_types logic_operators digits
hierarchies = record { generic = refl; default = refl; other_bounds = refl; two = refl; sources = refl; view = refl }
