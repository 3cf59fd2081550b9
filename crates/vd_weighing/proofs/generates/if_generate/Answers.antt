use Rattle.std.proofs.Common.{ap, ◌∙◌}
use Rattle.vd_forest.specs.Forest.{parts_of}
use Rattle.vd_forms.specs.declared.form.Form.TheVariants as form
use Rattle.vd_weighing.specs.Weights.{form_is}
use Rattle.vd_weighing.proofs.GenerateLemmas.{if_generate_cut}
use Rattle.vd_weighing.proofs.generates.if_generate.Goals as goal

pub returns : goal.returns
returns c ds =
    if_generate_cut ds c.args.parts.now c.parts.result c.starts_body-has_else.result c.in_ok-first.first c.in_ok-weight.weight c.in_ok-first.ensures
    (c.parts.ensures ∙ ap parts_of c.skip-2.ensures) (c.starts_body-has_else.ensures ∙ ap (form_is form.GenerateBody) c.skip.ensures) (c.in_ok-weight.ensures ds)
