use Rattle.vd_support_facts.proofs.Scalars.{functions_of_values}
use Rattle.vd_support_facts.proofs.facts.functions_of_values_are_operators.Goals as goal

pub returns : goal.returns
returns c = functions_of_values
