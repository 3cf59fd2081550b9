use Rattle.std.proofs.Common.{◌≡◌, List, ◌∷◌, ◌++◌, ap, ◌∙◌}
use Rattle.vd_subtypes.specs.declared.subtypes.Node.{Node}
use Rattle.vd_subtypes.specs.declared.subtypes.Node.TheVariants.{Bounded}
use Rattle.vd_subtypes.proofs.NodeLemmas.{made_bounded}
use Rattle.vd_subtypes.proofs.subtypes.Subtype.bounded.Goals as goal

pub returns : goal.returns
returns c =
    let ns : List Node = c.element.inside.nodes.items in
    let made : c.extend_from_slice.new.self.items ≡ Bounded c.args.index c.args.bounds ∷ ns =
    c.in_ok-extend_from_slice.ensures.items ∙ ap (λ xs. xs ++ c.deref.result.now) c.in_ok-nodes.ensures.items ∙ ap (λ xs. Bounded c.args.index c.args.bounds ∷ xs) c.deref.ensures.value
    in
    (made_bounded c.args.index c.args.bounds ns c.extend_from_slice.new.self.items c.args.element.now c.element.invariant c.element.view_is made).1
