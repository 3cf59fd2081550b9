use Rattle.std.proofs.Common.{sym}
use Rattle.vd_static_parts.proofs.PartLemmas.{nth_here}
use Rattle.vd_static_parts.proofs.parts.first_known.Goals as goal

pub returns-in-Some : goal.returns-in-Some
returns-in-Some c = λ subtypes e ms are. (nth_here subtypes e 0 c.args.parts.now ms c.in-Some.first.now are (sym c.in-Some.ensures.value)).sense.known
