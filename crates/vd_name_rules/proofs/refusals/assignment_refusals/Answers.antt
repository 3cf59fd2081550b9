use Rattle.std.proofs.Common.{ap, sym, ◌∙◌}
use Rattle.vd_name_rules.specs.Looking.{first_among, looked}
use Rattle.vd_name_rules.proofs.LookLemmas.{seen_of_design, with_rules}
use Rattle.vd_rewriting.specs.Folding.{folded}
use Rattle.vd_name_rules.proofs.refusals.assignment_refusals.Goals as goal

pub returns : goal.returns
returns c =
    ap with_rules (c.first_among-of_rules.ensures ∙ ap first_among (c.as_slice.ensures.value ∙ c.in_ok-looks.ensures.meanings ∙ ap (folded looked) c.cursor-units.ensures))
    ∙ sym (seen_of_design c.args.revision c.args.tree.now)
