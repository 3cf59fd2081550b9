use Rattle.vd_templates.proofs.TokenLemmas.{are_possible, end_once}
use Rattle.vd_templates.proofs.laws.tokens_are_possible.Goals as goal

pub returns-clause-possible : goal.returns-clause-possible
returns-clause-possible c = are_possible

pub returns-clause-ends : goal.returns-clause-ends
returns-clause-ends c = end_once
