use Rattle.std.proofs.Common.{subst, sym}
use Rattle.std.specs.Prelude.{IfOk}
use Rattle.vd_known_indications.specs.Kinds.{IsMadeAs}
use Rattle.vd_known_indications.specs.declared.kinds.NodeKind.TheVariants as code
use Rattle.vd_known_indications.proofs.making.piece.Goals as goal

pub returns-in-Attribute-clause-made : goal.returns-in-Attribute-clause-made
returns-in-Attribute-clause-made c =
    subst (λ k. IfOk c.attribute_piece.result (IsMadeAs (code.Piece k) c.args.ground.now c.args.node c.args.text.now c.args.parts.now)) (sym c.in-Attribute.is)
    (c.attribute_piece.ensures.node c.args.ground.now)
