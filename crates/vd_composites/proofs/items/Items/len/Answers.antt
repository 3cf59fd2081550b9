use Rattle.std.proofs.Common.{ap, sym, ◌∙◌}
use Rattle.vd_composites.specs.Composites.{count}
use Rattle.vd_composites.proofs.NodeLemmas.{counted}
use Rattle.vd_composites.proofs.items.Items.len.Goals as goal

pub returns : goal.returns
returns c = sym (counted c.self.inside.number c.self.inside.nodes.items c.self.invariant) ∙ ap count c.self.view_is
