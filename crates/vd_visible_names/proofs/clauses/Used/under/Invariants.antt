use Rattle.vd_visible_names.proofs.clauses.Used.under.Given as goal

abbrev pub decreases-loop-left : goal.decreases-loop-left
decreases-loop-left l = l.left
