use Rattle.vd_meaning_laws.proofs.Elaborating.{elaborated_alike}
use Rattle.vd_meaning_laws.proofs.laws.alike_processes_elaborate_alike.Goals as goal

pub returns : goal.returns
returns c = elaborated_alike
