use Rattle.vd_meaning.specs.Literals.{number}
use Rattle.vd_plain_values.proofs.LiteralLemmas.{large_so_far}
use Rattle.vd_plain_values.proofs.literals.number.Goals as goal

pub returns-in-None : goal.returns-in-None
returns-in-None c = large_so_far c.loop-digit.total c.loop-digit.digit-index _ (number c.args.digits.now) c.args.digits.now c.loop-digit-test.true c.loop-digit.invariant c.in-None.ensures
