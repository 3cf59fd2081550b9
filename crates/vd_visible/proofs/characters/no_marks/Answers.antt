use Rattle.vd_visible.proofs.CharacterLemmas.{nothing_marked}
use Rattle.vd_visible.proofs.characters.no_marks.Goals as goal

pub returns : goal.returns
returns c = nothing_marked 256
