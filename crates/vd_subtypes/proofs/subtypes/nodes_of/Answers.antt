use Rattle.std.proofs.Common.{◌≡◌, ◌∷◌, ◌++◌, [], take, ◌+◌, ℕ, sym, ap, ◌∙◌, subst}
use Rattle.std.proofs.lemmas.List.{take_more}
use Rattle.vd_subtypes.specs.Nodes.{IsNodesOf}
use Rattle.vd_subtypes.proofs.NodeLemmas.{one_more}
use Rattle.vd_subtypes.proofs.subtypes.nodes_of.Goals as goal

pub loop-field-preserved : goal.loop-field-preserved
loop-field-preserved c =
    let i : ℕ = c.loop-field.field-index in
    let front = take i c.args.fields.now in
    let more : take (i + 1) c.args.fields.now ≡ front ++ c.field-item.result ∷ [] = take_more c.args.fields.now i c.field-item.result c.loop-field-test.true ∙ ap (λ s. front ++ s ∷ []) (sym c.field-item.is) in
    let made = one_more front c.field-item.result c.loop-field.made.items c.nodes.result.now c.loop-field.invariant c.nodes.ensures.whole c.nodes.ensures.subtype in
    subst (λ ns. IsNodesOf (take (i + 1) c.args.fields.now) ns) (sym c.in_ok-extend_from_slice.ensures.items) (subst (λ ss. IsNodesOf ss (c.loop-field.made.items ++ c.nodes.result.now)) (sym more) made)
