use Rattle.vd_first_tracing.proofs.OneTracing.{one_tracing}
use Rattle.vd_first_tracing.proofs.laws.one_tracing.Goals as goal

pub returns : goal.returns
returns c = one_tracing
