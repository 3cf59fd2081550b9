use Rattle.vd_meaning_laws.proofs.Designs.{all_runs, all_traces, all_texts, top_traces}
use Rattle.vd_meaning_laws.proofs.laws_of_elaboration.alike_designs_run_alike.Goals as goal

pub returns-clause-runs : goal.returns-clause-runs
returns-clause-runs c = all_runs

pub returns-clause-traces : goal.returns-clause-traces
returns-clause-traces c = all_traces

pub returns-clause-texts : goal.returns-clause-texts
returns-clause-texts c = all_texts

pub returns-clause-elaborations : goal.returns-clause-elaborations
returns-clause-elaborations c = top_traces
