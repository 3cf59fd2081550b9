use Rattle.std.proofs.Common.{sym, subst}
use Rattle.vd_writing.specs.Starts.{AreStarts}
use Rattle.vd_writing.proofs.StartLemmas.{none_known}
use Rattle.vd_writing.proofs.rows.Rows.new.Goals as goal

pub invariant_of-result : goal.invariant_of-result
invariant_of-result c = subst (AreStarts c.args.table.now) (sym (c.in_ok-starts.ensures.items_if_clones_equal (λ y e. e))) (none_known c.args.table.now 4094)
