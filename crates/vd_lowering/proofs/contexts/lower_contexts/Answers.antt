-- No context has been met, so that the numbers of the table are those of any store.
use Rattle.std.proofs.Common.{refl}
use Rattle.vd_statements.proofs.TourLemmas.{at_start_within}
use Rattle.vd_lowering.proofs.contexts.lower_contexts.Goals as goal

pub tour-requires : goal.tour-requires
tour-requires c κs = ((refl, tt), at_start_within c.args.out.now c.in_ok-pass.pass.clauses.items c.in_ok-pass.ensures)
