use Rattle.std.proofs.Common.{◌≡◌, drop}
use Rattle.std.specs.List.{list_all}
use Rattle.vd_visible.specs.Sights.{sight_from}
use Rattle.vd_visible.specs.Types.{has_character}
use Rattle.vd_visible.proofs.surroundings.Surroundings.has_characters.Given as goal

abbrev pub invariant-loop-character : goal.invariant-loop-character
invariant-loop-character l =
    list_all (has_character (sight_from l.self) l.fn.mark) (drop l.character-index l.text) ≡ list_all (has_character (sight_from l.self) l.fn.mark) l.text
