use Rattle.vd_maps.proofs.Computed.{expressions}
use Rattle.vd_maps.proofs.facts.worked_expressions.Goals as goal

pub returns : goal.returns
returns c = expressions
