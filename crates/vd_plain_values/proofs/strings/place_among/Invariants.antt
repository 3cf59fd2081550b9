use Rattle.std.proofs.Common.{◌≡◌}
use Rattle.vd_forest.specs.Forest.{size}
use Rattle.vd_meaning.specs.Literals.{character, position_from}
use Rattle.vd_plain_values.specs.Plain.{texts_in}
use Rattle.vd_plain_values.proofs.strings.place_among.Given as goal

abbrev pub invariant-loop-first : goal.invariant-loop-first
invariant-loop-first l = position_from l.place (texts_in l.left) (character l.code) ≡ position_from 0 (texts_in l.literals) (character l.code)

abbrev pub decreases-loop-first : goal.decreases-loop-first
decreases-loop-first l = size l.left
