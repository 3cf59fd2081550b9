-- The facts, computed.
use Rattle.std.proofs.Common.{refl}
use Rattle.std.specs.Fmt.{digits}
use Rattle.vd_predefined.specs.Table.{standard_types, standard_operators, logic_types, logic_operators}
use Rattle.vd_design_facts93.specs.Facts.{ProcessFacts, ElaborationFacts, ConversionFacts}

pub processes : ProcessFacts
unfolding standard_types standard_operators logic_types logic_operators digits
processes = record { nothing_read = refl; unaffected = refl; overflow = refl }

pub elaborations : ElaborationFacts
unfolding standard_types standard_operators logic_types logic_operators digits
elaborations = record { implicit = refl; alternatives = refl; two_drivers = refl }

pub conversions : ConversionFacts
unfolding standard_types standard_operators logic_types logic_operators digits
conversions = record { of_formal = refl; of_both = refl; bounds = refl }
