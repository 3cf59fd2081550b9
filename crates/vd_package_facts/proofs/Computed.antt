-- The facts, computed.
use Rattle.std.proofs.Common.{refl}
use Rattle.std.specs.Fmt.{digits}
use Rattle.vd_predefined.specs.Table.{standard_types, standard_operators, logic_types, logic_operators}
use Rattle.vd_package_facts.specs.Facts.{PackageFacts, ViewFacts}

pub packages : PackageFacts
unfolding standard_types standard_operators logic_types logic_operators digits
packages = record { instances = refl; function_instances = refl }

pub views : ViewFacts
unfolding standard_types standard_operators logic_types logic_operators digits
views = record { links = refl; nested = refl }
