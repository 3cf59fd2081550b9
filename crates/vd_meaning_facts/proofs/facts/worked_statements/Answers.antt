use Rattle.vd_meaning_facts.proofs.Computed.{statements}
use Rattle.vd_meaning_facts.proofs.facts.worked_statements.Goals as goal

pub returns : goal.returns
returns c = statements
