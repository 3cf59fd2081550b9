use Rattle.std.proofs.Common.{◌++◌, drop}
use Rattle.std.specs.List.{flat_map}
use Rattle.vd_visible.specs.Sights.{sight_from}
use Rattle.vd_overloads.specs.Goals.{SameMembers, behind}
use Rattle.vd_overloads.proofs.ends.ends_behind_piece.Given as goal

abbrev pub invariant-loop-prefix : goal.invariant-loop-prefix
invariant-loop-prefix l =
    SameMembers (l.found.items ++ flat_map (behind (sight_from l.at) l.piece.form l.piece.text.now l.piece.parts) (drop l.prefix-index l.prefixes))
    (flat_map (behind (sight_from l.at) l.piece.form l.piece.text.now l.piece.parts) l.prefixes)
