use Rattle.std.proofs.Common.{◌≡◌, drop}
use Rattle.vd_gram.specs.Claims.{all_told_apart}
use Rattle.vd_gram.proofs.checking.all_told_apart.Given as goal

abbrev pub invariant-loop-index : goal.invariant-loop-index
invariant-loop-index l = all_told_apart l.table l.table.productions.now ≡ all_told_apart l.table (drop l.index l.table.productions.now)
