use Rattle.vd_literals.proofs.BitsLemmas.{takes_all}
use Rattle.vd_literals.proofs.bits.are_taken.Goals as goal

pub returns-in-V2019 : goal.returns-in-V2019
returns-in-V2019 c = takes_all c.args.revision c.args.width c.args.chars.now c.in-V2019.is
