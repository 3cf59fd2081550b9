use Rattle.vd_known_lengths.proofs.SubtypeLemmas.{elements_of_other}
use Rattle.std.proofs.Common.{◌∙◌, sym}
use Rattle.vd_known_lengths.proofs.subtypes.taken_elements.Goals as goal

pub returns-else-is_array : goal.returns-else-is_array
returns-else-is_array c =
    elements_of_other c.args.subtypes.now c.args.subtype c.scalar_of.result c.is_array.result c.is_array.ensures c.if-is_array.false c.scalar_of.ensures ∙ sym c.values_of.ensures
