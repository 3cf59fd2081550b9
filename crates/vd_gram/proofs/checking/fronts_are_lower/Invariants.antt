use Rattle.std.proofs.Common.{◌≡◌, drop}
use Rattle.vd_gram.specs.Claims.{fronts_are_lower}
use Rattle.vd_gram.proofs.checking.fronts_are_lower.Given as goal

abbrev pub invariant-loop-symbol : goal.invariant-loop-symbol
invariant-loop-symbol l = fronts_are_lower l.table l.rank l.symbols ≡ fronts_are_lower l.table l.rank (drop l.symbol-index l.symbols)
