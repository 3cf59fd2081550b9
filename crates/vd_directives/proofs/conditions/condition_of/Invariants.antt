use Rattle.std.proofs.Common.{◌≡◌, drop, Some}
use Rattle.vd_directives.specs.Steps.{run}
use Rattle.vd_directives.specs.Conditions.{condition_of}
use Rattle.vd_directives.proofs.conditions.condition_of.Given as goal

abbrev pub invariant-loop-piece : goal.invariant-loop-piece
invariant-loop-piece l = run l.tool (Some l.reader) (drop l.piece-index l.pieces) ≡ condition_of l.tool l.pieces
