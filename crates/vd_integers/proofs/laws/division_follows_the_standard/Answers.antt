use Rattle.vd_integers.proofs.DivisionLemmas.{remainder, modulus}
use Rattle.vd_integers.proofs.laws.division_follows_the_standard.Goals as goal

pub returns : goal.returns
returns c = λ a b some. (remainder a b some, modulus a b some)
