-- The facts, computed.
use Rattle.std.proofs.Common.{refl}
use Rattle.std.specs.Fmt.{digits}
use Rattle.vd_predefined.specs.Table.{standard_types, standard_operators, logic_types, logic_operators}
use Rattle.vd_package_facts93.specs.Facts.{MatchingFacts, PackageFacts, ViewFacts}

pub matching : MatchingFacts
unfolding standard_types standard_operators logic_types logic_operators digits
matching = record { dash = refl; first = refl }

pub packages : PackageFacts
unfolding standard_types standard_operators logic_types logic_operators digits
packages = record { instances = refl }

pub views : ViewFacts
unfolding standard_types standard_operators logic_types logic_operators digits
views = record { links = refl }
