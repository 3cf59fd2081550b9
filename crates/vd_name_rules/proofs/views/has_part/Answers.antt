use Rattle.std.proofs.Common.{ap, sym, ◌∙◌}
use Rattle.vd_operations.proofs.PassingLemmas.{nth_skipped}
use Rattle.vd_meaning.specs.Facets.{nth}
use Rattle.vd_meaning.specs.Meanings.{meanings}
use Rattle.vd_name_rules.proofs.views.has_part.Goals as goal
use Rattle.vd_port_modes.specs.Source.{design_in}

pub returns : goal.returns
returns c =
    let t = (design_in c.args.interfaces.now).table in
    c.is_present.ensures t
    ∙ ap (λ f. (nth 0 (meanings t f)).is_present) c.skip.ensures
    ∙ sym (ap (λ m. m.is_present) (nth_skipped c.args.number t c.args.parts.now))
