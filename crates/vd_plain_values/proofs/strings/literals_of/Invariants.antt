use Rattle.std.proofs.Common.{◌≡◌, ◌++◌, drop}
use Rattle.vd_meaning.specs.Literals.{literals_at}
use Rattle.vd_plain_values.proofs.strings.literals_of.Given as goal

abbrev pub invariant-loop-place : goal.invariant-loop-place
invariant-loop-place l = l.made.items ++ literals_at (drop l.place-index l.places) ≡ literals_at l.places
