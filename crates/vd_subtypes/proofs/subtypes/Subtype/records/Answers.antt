use Rattle.std.proofs.Common.{◌≡◌, ◌∷◌, length, ap, ◌∙◌}
use Rattle.vd_subtypes.specs.declared.subtypes.Node.TheVariants.{Record}
use Rattle.vd_subtypes.proofs.NodeLemmas.{made_record}
use Rattle.vd_subtypes.proofs.subtypes.Subtype.records.Goals as goal

pub returns : goal.returns
returns c =
    let many : c.in-Ok.count ≡ length c.args.fields.now = c.in-Ok.ensures.1 in
    (made_record c.args.fields.now c.in-Ok.count c.in_ok-parts.parts.items c.in_ok-nodes.nodes.items many c.in_ok-parts.ensures (c.in_ok-nodes.ensures ∙ ap (λ xs. Record c.in-Ok.count ∷ xs) c.deref.ensures.value)).1
