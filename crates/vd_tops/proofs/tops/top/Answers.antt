use Rattle.std.proofs.Common.{option_and_then, ap₂, ◌∙◌}
use Rattle.vd_tops.specs.TopNames.{name_told}
use Rattle.vd_tops.specs.Tops.{top_among}
use Rattle.vd_tops.proofs.TopLemmas.{if_named}
use Rattle.vd_tops.proofs.tops.top.Goals as goal

pub returns-clause-named : goal.returns-clause-named
returns-clause-named c =
    if_named c.args.design.now c.args.name.now c.read_top.result
    (c.read_top.ensures ∙ ap₂ (λ units name. option_and_then (top_among units) (name_told name)) c.cursor.ensures c.as_bytes.ensures.value)
