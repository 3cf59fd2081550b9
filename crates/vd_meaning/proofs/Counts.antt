-- How many declarations are given.
use Rattle.std.proofs.Common.{refl}
use Rattle.vd_predefined.specs.Table.{standard_types, standard_operators, logic_types, logic_operators}
use Rattle.vd_meaning.specs.Given.{GivenCounted}

pub counted : GivenCounted
unfolding standard_types standard_operators logic_types logic_operators
counted = record { in_2019 = refl; in_1993 = refl }
