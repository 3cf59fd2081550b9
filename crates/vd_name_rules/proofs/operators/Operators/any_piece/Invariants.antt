use Rattle.std.proofs.Common.{◌≡◌}
use Rattle.vd_forest.specs.Forest.{tree_count}
use Rattle.vd_meaning.specs.Tables.{table}
use Rattle.vd_trees.specs.declared.revision.Revision.TheVariants.{V2019}
use Rattle.vd_value_rules.specs.Operators.{any_piece_refused}
use Rattle.vd_name_rules.proofs.operators.Operators.any_piece.Given as goal

abbrev pub invariant-loop-first : goal.invariant-loop-first
invariant-loop-first l =
    any_piece_refused (table V2019 l.self.declarations.now) l.rest ≡ any_piece_refused (table V2019 l.self.declarations.now) l.pieces

abbrev pub decreases-loop-first : goal.decreases-loop-first
decreases-loop-first l = tree_count l.rest
