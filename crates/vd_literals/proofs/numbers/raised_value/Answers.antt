use Rattle.std.proofs.Common.{sym}
use Rattle.vd_literals.specs.Values.{value_of}
use Rattle.vd_literals.proofs.ValueLemmas.{raised_none}
use Rattle.vd_literals.proofs.numbers.raised_value.Goals as goal

pub returns-in-None : goal.returns-in-None
returns-in-None c = sym (raised_none c.args.base (value_of 10 c.args.exponent.now) c.args.digits.now c.requires (sym c.in-None.ensures))
