use Rattle.std.proofs.Common.{◌≡◌, true, sym, subst, ap, ◌∙◌}
use Rattle.vd_trees.specs.declared.revision.Revision.TheVariants.{V1993}
use Rattle.vd_first_trees.specs.Validity.{file_slots, is_valid}
use Rattle.vd_first_passes.specs.Lowering.{lowered}
use Rattle.vd_first_passes.specs.Flavour.{flavoured}
use Rattle.vd_first_passes.proofs.WrittenLemmas.{written_valid}
use Rattle.vd_first_passes.proofs.flavour.lower.Goals as goal

pub of-requires-clause-valid : goal.of-requires-clause-valid
of-requires-clause-valid c =
    let source = c.units-from.ensures in
    let written = c.in_ok-units.ensures.holds.is ∙ ap flavoured (c.cursor.ensures ∙ c.in_ok-with_lists.ensures.holds.is ∙ ap lowered source.units) in
    subst (λ f. is_valid V1993 file_slots f ≡ true) (sym written) (written_valid file_slots c.args.design.now source.valid)
