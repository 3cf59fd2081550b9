use Rattle.std.proofs.Common.{arith, sym}
use Rattle.vd_literals.specs.Values.{value_of}
use Rattle.vd_literals.proofs.ValueLemmas.{above-bounded, base_from, power_above}
use Rattle.vd_literals.proofs.numbers.power_value.Goals as goal

pub returns-else-n-eq0 : goal.returns-else-n-eq0
returns-else-n-eq0 c =
    let far = above-bounded (value_of 10 c.args.exponent.now) (sym c.in-None.ensures) in
    let base = base_from c.args.base c.requires.base in
    sym (power_above c.args.n c.args.base (value_of 10 c.args.exponent.now) base.0 (omega (arith, c.if-n-eq0.false)) far)
