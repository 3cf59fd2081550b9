use Rattle.std.proofs.Common.{refl}
use Rattle.vd_known_lengths.proofs.declared.typed.Goals as goal

pub returns-clause-is : goal.returns-clause-is
returns-clause-is c = λ d k sees.
    let i = c.of_type.ensures.is d k sees in record { subtype = record { within = i.within; is = i.is }; length = refl; callee = refl }
