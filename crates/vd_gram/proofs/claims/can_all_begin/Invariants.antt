use Rattle.std.proofs.Common.{◌≡◌, drop}
use Rattle.vd_gram.specs.Claims.{has, firsts_of}
use Rattle.vd_gram.proofs.claims.can_all_begin.Given as goal

abbrev pub invariant-loop-symbol : goal.invariant-loop-symbol
invariant-loop-symbol l = has (firsts_of l.table l.symbols) l.first ≡ has (firsts_of l.table (drop l.symbol-index l.symbols)) l.first
