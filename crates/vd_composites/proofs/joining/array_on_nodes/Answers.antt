use Rattle.std.proofs.Common.{subst}
use Rattle.vd_composites.specs.Answers.{MadeNodes}
use Rattle.vd_composites.proofs.JoinedLemmas.{on_end, on_found}
use Rattle.vd_composites.proofs.joining.array_on_nodes.Goals as goal

pub returns-in-Err : goal.returns-in-Err
returns-in-Err c = on_end c.args.index c.args.count c.args.nodes.now c.in-Err.end c.requires c.in-Err.ensures

pub returns-in-Ok : goal.returns-in-Ok
returns-in-Ok c = subst (MadeNodes c.array_nodes.result) (on_found c.args.index c.args.count c.args.nodes.now c.in-Ok.bounds c.requires c.in-Ok.ensures) c.array_nodes.ensures
