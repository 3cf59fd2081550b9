use Rattle.std.proofs.Common.{◌≡◌, ◌+◌, ◌-◌, ℕ, [], length, map, get_or}
use Rattle.vd_name_rows.proofs.members.Members.make_room.Given as goal

abbrev pub invariant-loop-self : goal.invariant-loop-self
invariant-loop-self l = (r : ℕ) → get_or (map (λ own. own.items) l.self-inside.lists.items) r [] ≡ get_or l.fn.self r []

abbrev pub decreases-loop-self : goal.decreases-loop-self
decreases-loop-self l = (l.region + 1) - length l.self-inside.lists.items
