use Rattle.std.proofs.Common.{refl}
use Rattle.vd_gram.specs.Claims.{is_checked}
use Rattle.vd_bench.proofs.arithmetic.arithmetic.Goals as goal

pub returns-clause-checked : goal.returns-clause-checked
unfolding is_checked
returns-clause-checked c = refl
