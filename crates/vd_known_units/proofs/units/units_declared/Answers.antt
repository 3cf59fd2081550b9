use Rattle.std.proofs.Common.{refl}
use Rattle.vd_port_modes.specs.Source.{design_in}
use Rattle.vd_known_units.proofs.units.units_declared.Goals as goal

pub returns : goal.returns
returns c = record { knows = λ k ks knows. c.declare_all.ensures.knows (design_in c.args.interfaces.now) k ks refl knows }
