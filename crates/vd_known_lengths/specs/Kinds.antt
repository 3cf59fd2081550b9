-- Kinds of expressions, by what their length hangs on.
use Rattle.vd_known_lengths.specs.declared.kinds.Kind.{Kind}
use Rattle.vd_known_lengths.specs.declared.kinds.Kind.TheVariants as code
use Rattle.vd_value_rules.specs.Lengths.{AFirstPiece, ALiteral, AName, AQualification, ASelection, AnAttribute, Joining, LengthKind, OfOperand, OtherLength, SomeArguments, SomeBrackets}

abbrev pub read_kind : Kind → LengthKind
read_kind code.Literal = ALiteral
read_kind code.Name = AName
read_kind code.FirstPiece = AFirstPiece
read_kind code.Selection = ASelection
read_kind code.Arguments = SomeArguments
read_kind code.Attribute = AnAttribute
read_kind code.Qualification = AQualification
read_kind code.Joining = Joining
read_kind code.OfOperand = OfOperand
read_kind code.Brackets = SomeBrackets
read_kind code.Other = OtherLength
