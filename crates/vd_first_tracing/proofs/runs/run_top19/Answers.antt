use Rattle.vd_first_tracing.proofs.runs.run_top19.Goals as goal

pub returns-in-Err : goal.returns-in-Err
returns-in-Err c = λ e is. c.ended.ensures e c.args.cycles (c.in-Err.ensures.ends e is)
