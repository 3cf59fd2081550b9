use Rattle.std.proofs.Common.{◌≡◌, ◌<◌, ◌≤◌, ◌+◌, ◌-◌, length, drop}
use Rattle.vd_literals.specs.declared.quoted.Before.TheVariants.{Start}
use Rattle.vd_literals.specs.Quoted.{marks_end, shifted, first_some}
use Rattle.vd_literals.proofs.QuotedLemmas.{IsEnd}
use Rattle.vd_literals.proofs.quoted.marks_end.Given as goal

-- the end is found in what is left, or else the last one that was met counts
abbrev pub invariant-loop-i : goal.invariant-loop-i
invariant-loop-i l = record {
  end : marks_end l.single Start l.rest ≡ first_some (shifted l.i (marks_end l.single l.before (drop l.i l.rest))) l.last;
  within : IsEnd (length l.rest) l.last;
}

abbrev pub decreases-loop-i : goal.decreases-loop-i
decreases-loop-i l = length l.rest - l.i
