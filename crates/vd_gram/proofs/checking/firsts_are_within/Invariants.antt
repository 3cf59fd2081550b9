use Rattle.std.proofs.Common.{◌≡◌, drop}
use Rattle.vd_gram.specs.Claims.{is_within, firsts_of}
use Rattle.vd_gram.proofs.checking.firsts_are_within.Given as goal

abbrev pub invariant-loop-symbol : goal.invariant-loop-symbol
invariant-loop-symbol l = is_within (firsts_of l.table l.symbols) l.set ≡ is_within (firsts_of l.table (drop l.symbol-index l.symbols)) l.set
