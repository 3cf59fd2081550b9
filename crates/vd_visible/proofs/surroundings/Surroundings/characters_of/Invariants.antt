use Rattle.std.proofs.Common.{◌≡◌, ◌≤◌, ◌-◌, length}
use Rattle.vd_visible.specs.Sights.{sight_from}
use Rattle.vd_visible.proofs.CharacterLemmas.{AreMarked}
use Rattle.vd_visible.proofs.surroundings.Surroundings.characters_of.Given as goal

abbrev pub invariant-loop-next : goal.invariant-loop-next
invariant-loop-next l = record {
  many : length l.found ≡ 256;
  within : l.next ≤ 4294967296;
  marked : AreMarked (sight_from l.self) l.mark l.found l.next;
}

abbrev pub decreases-loop-next : goal.decreases-loop-next
decreases-loop-next l = 4294967296 - l.next
