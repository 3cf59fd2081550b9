use Rattle.std.proofs.Common.{[], ◌∷◌, ◌≤◌, drop, length, map}
use Rattle.vd_known_designs.specs.Marks.{HasLiterals, mark_of, marks_known}
use Rattle.vd_known_designs.specs.Known.{AreKnown}
use Rattle.vd_meaning.specs.Tables.{Table}
use Rattle.vd_known_designs.proofs.marks.given_table.Given as goal

abbrev pub invariant-loop-left : goal.invariant-loop-left
invariant-loop-left l = record {
  within : l.left ≤ length l.marks;
  known : (t : Table) → AreKnown t l.table (marks_known (map mark_of (drop l.left l.marks)) ∷ []);
  literals : HasLiterals l.table.subtypes l.lists;
}

abbrev pub decreases-loop-left : goal.decreases-loop-left
decreases-loop-left l = l.left
