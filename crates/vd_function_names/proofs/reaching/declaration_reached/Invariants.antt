use Rattle.std.proofs.Common.{◌≡◌}
use Rattle.vd_meaning.specs.Elaborations.{Units}
use Rattle.vd_forest.specs.Forest.{tree_count}
use Rattle.vd_function_names.proofs.ReachingLemmas.{reached_from}
use Rattle.vd_function_names.proofs.reaching.declaration_reached.Given as goal
use Rattle.vd_meaning.specs.Tables.{table}
use Rattle.vd_trees.specs.declared.revision.Revision.{Revision}
use Rattle.vd_value_rules.specs.Reaching.{reached}

abbrev pub invariant-loop-piece : goal.invariant-loop-piece
invariant-loop-piece l = (revision : Revision) (units : Units)
    → reached_from (table revision l.declarations) l.rest l.number
    ≡ (reached (record { revision = revision; table = table revision l.declarations; units = units }) l.pieces).declaration

abbrev pub decreases-loop-piece : goal.decreases-loop-piece
decreases-loop-piece l = tree_count l.rest
