use Rattle.std.proofs.Common.{ap, ◌∙◌}
use Rattle.vd_forest.specs.Forest.{parts_of}
use Rattle.vd_weighing.proofs.GenerateLemmas.{case_generate_cut}
use Rattle.vd_weighing.proofs.generates.case_generate.Goals as goal

pub returns : goal.returns
returns c ds =
    case_generate_cut ds c.args.parts.now c.parts.result c.in_ok-selector.selector c.in_ok-weight.weight c.in_ok-selector.ensures
    (c.parts.ensures ∙ ap parts_of c.skip.ensures) (c.in_ok-weight.ensures ds)
