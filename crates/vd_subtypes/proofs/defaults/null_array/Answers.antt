use Rattle.std.proofs.Common.{sym, ap, ◌∙◌}
use Rattle.vd_composites.specs.Concatenations.{array_on}
use Rattle.vd_subtypes.proofs.StackLemmas.{null_is}
use Rattle.vd_subtypes.proofs.defaults.null_array.Goals as goal

pub returns-in-Ok : goal.returns-in-Ok
returns-in-Ok c = null_is c.args.index c.in-Ok.made (ap (array_on c.args.index) (sym c.new.ensures) ∙ c.in-Ok.ensures)
