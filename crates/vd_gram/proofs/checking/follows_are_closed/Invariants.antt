use Rattle.std.proofs.Common.{◌≡◌, drop}
use Rattle.vd_gram.specs.Claims.{follows_are_closed}
use Rattle.vd_gram.proofs.checking.follows_are_closed.Given as goal

abbrev pub invariant-loop-index : goal.invariant-loop-index
invariant-loop-index l = follows_are_closed l.table l.after l.symbols ≡ follows_are_closed l.table l.after (drop l.index l.symbols)
