use Rattle.std.proofs.Common.{ap₂, ◌∙◌}
use Rattle.vd_meaning.specs.Tables.{pairs}
use Rattle.vd_port_modes.proofs.copies.pairs_of.Goals as goal

pub returns : goal.returns
returns c =
    c.in_ok-pairs.ensures ∙ ap₂ pairs (c.deref.ensures.value ∙ c.in_ok-generic.ensures) (c.deref-2.ensures.value ∙ c.in_ok-copies.ensures)
