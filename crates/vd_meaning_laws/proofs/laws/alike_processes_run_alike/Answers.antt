use Rattle.vd_meaning_laws.proofs.Running.{processes_run_alike}
use Rattle.vd_meaning_laws.proofs.laws.alike_processes_run_alike.Goals as goal

pub returns : goal.returns
returns c = processes_run_alike
