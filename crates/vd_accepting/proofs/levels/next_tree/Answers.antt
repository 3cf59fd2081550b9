use Rattle.std.proofs.Common.{◌+◌, refl}
use Rattle.vd_accepting.proofs.LevelLemmas.{next_is}
use Rattle.vd_accepting.proofs.levels.next_tree.Goals as goal

pub returns-then-left-gt1 : goal.returns-then-left-gt1
returns-then-left-gt1 c = λ d. next_is d c.args.at (c.args.at + 1) c.saturating_sub-left.result c.args.coming.now refl c.saturating_sub-left.ensures c.if-left-gt1.true
