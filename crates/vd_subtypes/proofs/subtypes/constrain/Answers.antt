use Rattle.std.proofs.Common.{None, sym, ap, ◌∙◌, subst}
use Rattle.vd_composites.specs.Subtypes.{Arrays, constrained}
use Rattle.vd_subtypes.specs.Nodes.{MadeSubtype, read, subtype_in}
use Rattle.vd_subtypes.proofs.NodeLemmas.{unbounded_is, tail_of}
use Rattle.vd_subtypes.proofs.subtypes.constrain.Goals as goal

pub returns-in-Unbounded : goal.returns-in-Unbounded
returns-in-Unbounded c =
    let a = unbounded_is c.in-Unbounded.index c.args.nodes.now c.requires (sym c.head_at.ensures ∙ c.in-Unbounded.is) in
    subst (λ s. MadeSubtype c.constrain_array.result (constrained s c.args.bounds))
    (ap (λ ns. Arrays c.in-Unbounded.index None (subtype_in (read ns))) (tail_of 1 c.args.nodes.now) ∙ sym a.is) c.constrain_array.ensures
