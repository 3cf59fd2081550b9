use Rattle.std.proofs.Common.{◌∙◌, ap}
use Rattle.vd_subtypes.specs.Heads.{head_of}
use Rattle.vd_subtypes.specs.Nodes.{head_in}
use Rattle.vd_subtypes.proofs.NodeLemmas.{head_known}
use Rattle.vd_subtypes.proofs.subtypes.Subtype.head.Goals as goal

pub returns : goal.returns
returns c = c.head_at.ensures ∙ ap head_in c.deref.ensures.value ∙ head_known c.self.inside.nodes.items c.self.invariant ∙ ap head_of c.self.view_is
