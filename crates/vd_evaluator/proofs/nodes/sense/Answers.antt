use Rattle.std.proofs.Common.{refl, sym, ◌∙◌}
use Rattle.vd_meaning.specs.Kinds
use Rattle.vd_evaluator.specs.declared.kinds.TakenKind.TheVariants as code
use Rattle.vd_evaluator.proofs.SenseLemmas.{of_any}
use Rattle.vd_evaluator.proofs.nodes.sense.Goals as goal

pub returns-in-Word : goal.returns-in-Word
returns-in-Word c = of_any _ _ _ _ _ (Kinds.kind c.args.node.form) code.Word c.word.result refl (sym c.in-Word.is ∙ c.kind_of.ensures) c.word.ensures

pub returns-in-CharacterLiteral : goal.returns-in-CharacterLiteral
returns-in-CharacterLiteral c = of_any _ _ _ _ _ (Kinds.kind c.args.node.form) code.CharacterLiteral c.character.result refl (sym c.in-CharacterLiteral.is ∙ c.kind_of.ensures) c.character.ensures

pub returns-in-NumberLiteral : goal.returns-in-NumberLiteral
returns-in-NumberLiteral c = of_any _ _ _ _ _ (Kinds.kind c.args.node.form) code.NumberLiteral c.integer.result refl (sym c.in-NumberLiteral.is ∙ c.kind_of.ensures) c.integer.ensures

pub returns-in-SelectionPiece : goal.returns-in-SelectionPiece
returns-in-SelectionPiece c = of_any _ _ _ _ _ (Kinds.kind c.args.node.form) code.SelectionPiece c.selection.result refl (sym c.in-SelectionPiece.is ∙ c.kind_of.ensures) c.selection.ensures

pub returns-in-StringLiteral : goal.returns-in-StringLiteral
returns-in-StringLiteral c = of_any _ _ _ _ _ (Kinds.kind c.args.node.form) code.StringLiteral c.quoted.result refl (sym c.in-StringLiteral.is ∙ c.kind_of.ensures) c.quoted.ensures
