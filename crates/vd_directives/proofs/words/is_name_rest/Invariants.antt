use Rattle.std.proofs.Common.{◌≡◌, length}
use Rattle.vd_trees.specs.Identifiers.{is_name_rest}
use Rattle.vd_directives.proofs.words.is_name_rest.Given as goal

abbrev pub invariant-loop-rest : goal.invariant-loop-rest
invariant-loop-rest l = is_name_rest l.text ≡ is_name_rest l.rest

abbrev pub decreases-loop-rest : goal.decreases-loop-rest
decreases-loop-rest l = length l.rest
