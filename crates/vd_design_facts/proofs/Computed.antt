-- The facts, computed.
use Rattle.std.proofs.Common.{refl}
use Rattle.std.specs.Fmt.{digits}
use Rattle.vd_predefined.specs.Table.{standard_types, standard_operators, logic_types, logic_operators}
use Rattle.vd_design_facts.specs.Facts.{ProcessFacts, MatchingFacts}

pub processes : ProcessFacts
unfolding standard_types standard_operators logic_types logic_operators digits
processes = record { nothing_read = refl; unaffected = refl; overflow = refl; pulses = refl; bounds = refl; element_bounds = refl; other_length = refl }

pub matching : MatchingFacts
unfolding standard_types standard_operators logic_types logic_operators digits
matching = record { dash = refl; first = refl }
