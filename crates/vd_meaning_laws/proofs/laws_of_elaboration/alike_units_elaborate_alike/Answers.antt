use Rattle.vd_meaning_laws.proofs.Trees.{all_units, all_elaborations}
use Rattle.vd_meaning_laws.proofs.laws_of_elaboration.alike_units_elaborate_alike.Goals as goal

pub returns-clause-units : goal.returns-clause-units
returns-clause-units c = all_units

pub returns-clause-trees : goal.returns-clause-trees
returns-clause-trees c = all_elaborations
