use Rattle.vd_meaning_laws.proofs.PlaceCases.{parts_are_seen, nodes_see_parts}
use Rattle.vd_meaning_laws.proofs.Values.{values_alike}
use Rattle.vd_meaning_laws.proofs.place_laws.evaluated_parts_are_seen_as_values.Goals as goal

pub returns-clause-parts : goal.returns-clause-parts
returns-clause-parts c = parts_are_seen

pub returns-clause-nodes : goal.returns-clause-nodes
returns-clause-nodes c = nodes_see_parts

pub returns-clause-values : goal.returns-clause-values
returns-clause-values c = values_alike
