use Rattle.vd_meaning_laws.proofs.PlaceCases.{values_see_parts, value_nodes_see_parts}
use Rattle.vd_meaning_laws.proofs.place_laws.evaluated_nodes_see_parts_as_values.Goals as goal

pub returns-clause-parts : goal.returns-clause-parts
returns-clause-parts c = values_see_parts

pub returns-clause-nodes : goal.returns-clause-nodes
returns-clause-nodes c = value_nodes_see_parts
