use Rattle.std.proofs.Common.{◌≡◌, ◌++◌, map, drop}
use Rattle.vd_naming.specs.Actuals.{mark_in, profile_in}
use Rattle.vd_name_actuals.specs.Seen.{seen_known}
use Rattle.vd_name_actuals.proofs.profiles.profile_in.Given as goal

abbrev pub invariant-loop-mark : goal.invariant-loop-mark
invariant-loop-mark l =
    l.marks.items ++ map (mark_in (seen_known l.known)) (drop l.mark-index l.mark-items) ≡ profile_in (seen_known l.known) l.fn.function
