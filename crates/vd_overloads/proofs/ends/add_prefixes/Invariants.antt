use Rattle.std.proofs.Common.{◌++◌, drop}
use Rattle.vd_overloads.specs.Goals.{prefixes_behind, SameMembers}
use Rattle.vd_overloads.proofs.ends.add_prefixes.Given as goal

-- with the ways that are left, the members are those that there are to be
abbrev pub invariant-loop-way : goal.invariant-loop-way
invariant-loop-way l = SameMembers (l.found.items ++ prefixes_behind (drop l.way-index l.ways)) (l.fn.found.items ++ prefixes_behind l.ways)
