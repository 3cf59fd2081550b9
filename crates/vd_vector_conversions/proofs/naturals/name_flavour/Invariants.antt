use Rattle.std.proofs.Common.{◌≡◌}
use Rattle.vd_forest.specs.Forest.{tree_count}
use Rattle.vd_vector_conversions.specs.Naturals.{named_upto, start}
use Rattle.vd_vector_conversions.proofs.naturals.name_flavour.Given as goal

abbrev pub invariant-loop-piece : goal.invariant-loop-piece
invariant-loop-piece l = named_upto l.facts l.upto l.rest ≡ named_upto l.facts start l.pieces

abbrev pub decreases-loop-piece : goal.decreases-loop-piece
decreases-loop-piece l = tree_count l.rest
