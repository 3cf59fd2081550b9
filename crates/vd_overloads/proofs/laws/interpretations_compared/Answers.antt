use Rattle.vd_overloads.proofs.InterpretationLaws.{interpreted_alike}
use Rattle.vd_overloads.proofs.laws.interpretations_compared.Goals as goal

pub returns : goal.returns
returns c = interpreted_alike
