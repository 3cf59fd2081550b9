-- Kinds of nodes that expressions are made of.
use Rattle.std.specs.Prelude.{true, false}
use Rattle.vd_meaning.specs.Kinds
use Rattle.vd_evaluator.specs.declared.kinds.TakenKind.{TakenKind}
use Rattle.vd_evaluator.specs.declared.kinds.TakenKind.TheVariants as code

abbrev pub taken : Kinds.Kind → TakenKind
taken Kinds.Word = code.Word
taken Kinds.CharacterLiteral = code.CharacterLiteral
taken Kinds.StringLiteral = code.StringLiteral
taken Kinds.NumberLiteral = code.NumberLiteral
taken Kinds.TimeLiteral = code.TimeLiteral
taken Kinds.WholeName = code.WholeName
taken Kinds.SelectionPiece = code.SelectionPiece
taken Kinds.ArgumentsPiece = code.ArgumentsPiece
taken Kinds.QualificationPiece = code.QualificationPiece
taken (Kinds.Limits false) = code.Ascending
taken (Kinds.Limits true) = code.Descending
taken Kinds.Operator = code.Operator
taken Kinds.Brackets = code.Brackets
taken _ = code.Other

-- the kind that is taken so
abbrev pub kind_behind : TakenKind → Kinds.Kind
kind_behind code.Word = Kinds.Word
kind_behind code.CharacterLiteral = Kinds.CharacterLiteral
kind_behind code.StringLiteral = Kinds.StringLiteral
kind_behind code.NumberLiteral = Kinds.NumberLiteral
kind_behind code.TimeLiteral = Kinds.TimeLiteral
kind_behind code.WholeName = Kinds.WholeName
kind_behind code.SelectionPiece = Kinds.SelectionPiece
kind_behind code.ArgumentsPiece = Kinds.ArgumentsPiece
kind_behind code.QualificationPiece = Kinds.QualificationPiece
kind_behind code.Ascending = Kinds.Limits false
kind_behind code.Descending = Kinds.Limits true
kind_behind code.Operator = Kinds.Operator
kind_behind code.Brackets = Kinds.Brackets
kind_behind code.Other = Kinds.Parts
