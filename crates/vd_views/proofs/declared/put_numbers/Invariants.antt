use Rattle.std.proofs.Common.{◌≡◌, ◌++◌}
use Rattle.vd_views.specs.Splits.{numbers_from}
use Rattle.vd_views.proofs.declared.put_numbers.Given as goal

abbrev pub invariant-loop-more : goal.invariant-loop-more
invariant-loop-more l = l.others.items ≡ l.fn.others.items ++ numbers_from l.first l.more
