use Rattle.std.proofs.Common.{◌≡◌, List, ◌∷◌, ◌++◌, ap, ◌∙◌}
use Rattle.vd_subtypes.specs.declared.subtypes.Node.{Node}
use Rattle.vd_subtypes.specs.declared.subtypes.Node.TheVariants.{Unbounded}
use Rattle.vd_subtypes.proofs.NodeLemmas.{made_unbounded}
use Rattle.vd_subtypes.proofs.subtypes.Subtype.unbounded.Goals as goal

pub returns : goal.returns
returns c =
    let ns : List Node = c.element.inside.nodes.items in
    let made : c.extend_from_slice.new.self.items ≡ Unbounded c.args.index ∷ ns =
    c.in_ok-extend_from_slice.ensures.items ∙ ap (λ xs. xs ++ c.deref.result.now) c.in_ok-nodes.ensures.items ∙ ap (λ xs. Unbounded c.args.index ∷ xs) c.deref.ensures.value
    in
    (made_unbounded c.args.index ns c.extend_from_slice.new.self.items c.args.element.now c.element.invariant c.element.view_is made).1
