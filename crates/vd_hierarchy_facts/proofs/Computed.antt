-- The facts, computed.
use Rattle.std.proofs.Common.{refl}
use Rattle.std.specs.Fmt.{digits}
use Rattle.vd_predefined.specs.Table.{standard_types, standard_operators, logic_types, logic_operators}
use Rattle.vd_hierarchy_facts.specs.Facts.{ElaborationFacts, VectorFacts}

pub elaborations : ElaborationFacts
unfolding standard_types standard_operators logic_types logic_operators digits
elaborations = record { implicit = refl; alternatives = refl; two_drivers = refl; indexes = refl; actuals = refl; generic_ports = refl }

pub vectors : VectorFacts
unfolding standard_types standard_operators logic_types logic_operators digits
vectors = record { output = refl; both_ways = refl }
