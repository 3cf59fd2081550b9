use Rattle.std.proofs.Common.{sym, ◌∙◌}
use Rattle.vd_subtypes.proofs.NodeLemmas.{array_constrained}
use Rattle.vd_subtypes.proofs.subtypes.constrain_array.Goals as goal

pub returns-in-Ok : goal.returns-in-Ok
returns-in-Ok c = array_constrained c.args.index c.args.bounds c.args.element.now c.in-Ok.made.items c.requires (sym c.covers.ensures ∙ c.if-not-covers.false) c.in-Ok.ensures
