use Rattle.std.proofs.Common.{subst, sym}
use Rattle.std.specs.Prelude.{IfOk}
use Rattle.vd_meaning.specs.Names.{Named}
use Rattle.vd_static_values.specs.Names.{IsName}
use Rattle.vd_static_values.specs.Nodes.{IsField, IsPiece}
use Rattle.vd_static_values.specs.declared.nodes.Piece.{Piece}
use Rattle.vd_static_nodes.proofs.names.apply.Goals as goal

pub returns-in-Field-clause-named : goal.returns-in-Field-clause-named
returns-in-Field-clause-named c = λ e p f ground is piece.
    let store = c.args.ground.now.subtypes.now in
    let field : IsField store e c.in-Field.number f = subst (λ (x : Piece). IsPiece store e x f) c.in-Field.is piece in
    subst (λ (q : Named). IfOk c.field_by_table.result (λ x. IsName store e x q)) (sym (field.is p)) (c.field_by_table.ensures.named e field.mark p is)
