use Rattle.std.proofs.Common.{ap, length, ◌∙◌}
use Rattle.vd_port_modes.specs.Source.{design_in}
use Rattle.vd_port_modes.proofs.interfaces.Interfaces.view_count.Goals as goal

pub returns : goal.returns
returns c = c.self.invariant.count_is ∙ ap (λ s. length (design_in s).units.views) c.self.view_is
