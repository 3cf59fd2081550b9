use Rattle.std.proofs.Common.{◌∙◌, sym}
use Rattle.vd_known_units.proofs.insides.type_of_first.Goals as goal

pub returns-clause-mark : goal.returns-clause-mark
returns-clause-mark c = λ d k ks knows. c.type_of.ensures ∙ sym (c.in_ok-first.ensures.node d k ks knows).sense.mark
