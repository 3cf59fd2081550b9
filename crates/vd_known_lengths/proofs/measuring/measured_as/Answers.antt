use Rattle.std.proofs.Common.{None, Some, length}
use Rattle.vd_meaning.specs.Meanings.{meanings}
use Rattle.vd_meaning.specs.Tables.{role_of}
use Rattle.vd_known_lengths.proofs.TreeLemmas.{of_kind}
use Rattle.vd_known_lengths.specs.declared.kinds.Kind.TheVariants as code
use Rattle.vd_value_rules.specs.Knowledge.{at_mark}
use Rattle.vd_value_rules.specs.Lengths.{first_shaped, of_type_of, selection_shaped, shaped_by}
use Rattle.vd_known_lengths.proofs.measuring.measured_as.Goals as goal

pub returns-in-Literal-clause-is : goal.returns-in-Literal-clause-is
returns-in-Literal-clause-is c = λ d k ss sees are.
    let n = c.args.tree.now.form in
    of_kind c.args.over.now.ground.subtypes.now d k n c.args.tree.now.text.now (meanings d.table c.args.tree.now.parts) ss c.args.kind code.Literal c.in-Literal.is c.alone.result (c.alone.ensures.is (of_type_of k n (Some (length c.args.tree.now.text.now))) (c.typed.ensures.is d k sees))

pub returns-in-FirstPiece-clause-is : goal.returns-in-FirstPiece-clause-is
returns-in-FirstPiece-clause-is c = λ d k ss sees are.
    let n = c.args.tree.now.form in
    of_kind c.args.over.now.ground.subtypes.now d k n c.args.tree.now.text.now (meanings d.table c.args.tree.now.parts) ss c.args.kind code.FirstPiece c.in-FirstPiece.is c.alone-in-FirstPiece.result (c.alone-in-FirstPiece.ensures.is (first_shaped (role_of d.table n.declaration) d k n) (c.first_of_name.ensures.is d k sees))

pub returns-in-Selection-clause-is : goal.returns-in-Selection-clause-is
returns-in-Selection-clause-is c = λ d k ss sees are.
    let n = c.args.tree.now.form in
    of_kind c.args.over.now.ground.subtypes.now d k n c.args.tree.now.text.now (meanings d.table c.args.tree.now.parts) ss c.args.kind code.Selection c.in-Selection.is c.piece_alone.result (c.piece_alone.ensures.is (selection_shaped (role_of d.table n.declaration) d k n) (c.selected.ensures.is d k sees))

pub returns-in-Qualification-clause-is : goal.returns-in-Qualification-clause-is
returns-in-Qualification-clause-is c = λ d k ss sees are.
    let n = c.args.tree.now.form in
    of_kind c.args.over.now.ground.subtypes.now d k n c.args.tree.now.text.now (meanings d.table c.args.tree.now.parts) ss c.args.kind code.Qualification c.in-Qualification.is c.alone-in-Qualification.result (c.alone-in-Qualification.ensures.is (shaped_by (at_mark n.declaration k.choosing)) (c.declared.ensures.is d k sees))

pub returns-in-OfOperand-clause-is : goal.returns-in-OfOperand-clause-is
returns-in-OfOperand-clause-is c = λ d k ss sees are.
    let n = c.args.tree.now.form in
    of_kind c.args.over.now.ground.subtypes.now d k n c.args.tree.now.text.now (meanings d.table c.args.tree.now.parts) ss c.args.kind code.OfOperand c.in-OfOperand.is c.of_operand.result (c.of_operand.ensures.is d k ss sees are)

pub returns-in-Other-clause-is : goal.returns-in-Other-clause-is
returns-in-Other-clause-is c = λ d k ss sees are.
    let n = c.args.tree.now.form in
    of_kind c.args.over.now.ground.subtypes.now d k n c.args.tree.now.text.now (meanings d.table c.args.tree.now.parts) ss c.args.kind code.Other c.in-Other.is c.alone-in-Other.result (c.alone-in-Other.ensures.is (of_type_of k n None) (c.typed-in-Other.ensures.is d k sees))
