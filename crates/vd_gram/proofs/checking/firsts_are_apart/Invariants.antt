use Rattle.std.proofs.Common.{◌≡◌, drop}
use Rattle.vd_gram.specs.Claims.{is_apart, firsts_of, signs_of}
use Rattle.vd_gram.proofs.checking.firsts_are_apart.Given as goal

abbrev pub invariant-loop-symbol : goal.invariant-loop-symbol
invariant-loop-symbol l = is_apart (firsts_of l.table l.symbols) (signs_of l.table l.production) ≡ is_apart (firsts_of l.table (drop l.symbol-index l.symbols)) (signs_of l.table l.production)
