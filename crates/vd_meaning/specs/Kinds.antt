-- Kinds of nodes: what forms of the grammar have in common. A form is a line in the table below, and seldom a kind of its own.
use Rattle.std.specs.Prelude.{Bool, true, false}
use Rattle.vd_forms.specs.declared.form.Form.{Form}
use Rattle.vd_forms.specs.declared.form.Form.TheVariants as form

pub data Kind : Type 0 where
  -- what may stand at a place and doesn't, and what has no meaning of its own
  NotThere : Kind
  Parts : Kind
  -- leaves, and literals of several tokens
  Word : Kind
  CharacterLiteral : Kind
  StringLiteral : Kind
  NumberLiteral : Kind
  TimeLiteral : Kind
  -- names and their pieces
  WholeName : Kind
  SelectionPiece : Kind
  ArgumentsPiece : Kind
  AttributePiece : Kind
  RangePiece : Kind
  QualificationPiece : Kind
  -- other expressions
  Operator : Kind
  Brackets : Kind
  -- elements in brackets, and choices
  Associated : Kind
  AssociatedOthers : Kind
  ChoiceList : Kind
  AnyChoice : Kind
  OpenActual : Kind
  -- ranges and subtypes
  Limits : (down : Bool) → Kind
  LimitsOfMark : Kind
  OpenIndex : Kind
  MarkName : Kind
  Indication : Kind
  Constraint : Kind
  -- types
  Literals : Kind
  ArrayDefinition : Kind
  RecordDefinition : Kind
  RecordParts : Kind
  RecordPart : Kind
  -- declarations
  Identifiers : Kind
  NewType : Kind
  NewSubtype : Kind
  NewConstants : Kind
  NewVariables : Kind
  NewSignals : Kind
  NewPorts : Kind
  Interfaces : Kind
  Parameters : Kind
  NewFunction : Kind
  Declarations : Kind
  -- generics and instances
  NewGenerics : Kind
  NewGenericType : Kind
  NewGenericFunction : Kind
  GenericActuals : Kind
  NewInstance : Kind
  NewPackageInstance : Kind
  -- waveforms, and values with conditions
  Transported : Kind
  Delayed : Kind
  NoWaveform : Kind
  Conditional : Kind
  Guarded : Kind
  -- sequential statements and parts of them
  Sequence : Kind
  Labelled : Kind
  AssignSignal : Kind
  AssignVariable : Kind
  SelectSignal : Kind
  SelectVariable : Kind
  If : Kind
  Branches : Kind
  Branch : Kind
  Case : Kind
  Alternatives : Kind
  Alternative : Kind
  SelectedAlternative : Kind
  For : Kind
  WhileTrue : Kind
  Endless : Kind
  Suspend : Kind
  Listed : Kind
  Asserting : Kind
  Reporting : Kind
  Giving : Kind
  -- out of a loop, or to its next turn
  Jumping : (out : Bool) → Kind
  -- concurrent statements
  Everything : Kind
  AssignConcurrently : Kind
  OneProcess : Kind
  Concurrent : Kind

-- the forms of the grammar
abbrev pub kind : Form → Kind
kind form.Absent = NotThere
-- leaves and literals
kind form.Identifier = Word
kind form.Letter = CharacterLiteral
kind form.Quoted = StringLiteral
kind form.Bits = StringLiteral
kind form.Number = NumberLiteral
kind form.PhysicalLiteral = TimeLiteral
-- names
kind form.Name = WholeName
kind form.OperatorName = WholeName
kind form.Selection = SelectionPiece
kind form.Arguments = ArgumentsPiece
kind form.Attribute = AttributePiece
kind form.RangeAttribute = RangePiece
kind form.Qualification = QualificationPiece
-- operators
kind form.Condition = Operator
kind form.Nand = Operator
kind form.Nor = Operator
kind form.And = Operator
kind form.Or = Operator
kind form.Xor = Operator
kind form.Xnor = Operator
kind form.Equal = Operator
kind form.Unequal = Operator
kind form.Less = Operator
kind form.AtMost = Operator
kind form.Greater = Operator
kind form.AtLeast = Operator
kind form.MatchEqual = Operator
kind form.MatchUnequal = Operator
kind form.MatchLess = Operator
kind form.MatchAtMost = Operator
kind form.MatchGreater = Operator
kind form.MatchAtLeast = Operator
kind form.ShiftLeftLogical = Operator
kind form.ShiftRightLogical = Operator
kind form.ShiftLeftArithmetic = Operator
kind form.ShiftRightArithmetic = Operator
kind form.RotateLeft = Operator
kind form.RotateRight = Operator
kind form.Identity = Operator
kind form.Negation = Operator
kind form.Add = Operator
kind form.Subtract = Operator
kind form.Concatenate = Operator
kind form.Multiply = Operator
kind form.Divide = Operator
kind form.Modulo = Operator
kind form.Remainder = Operator
kind form.Absolute = Operator
kind form.Not = Operator
kind form.AndReduction = Operator
kind form.OrReduction = Operator
kind form.XorReduction = Operator
kind form.XnorReduction = Operator
kind form.NandReduction = Operator
kind form.NorReduction = Operator
kind form.Power = Operator
-- brackets and choices
kind form.Aggregate = Brackets
kind form.Association = Associated
kind form.OthersAssociation = AssociatedOthers
kind form.AssociationChoices = ChoiceList
kind form.Choices = ChoiceList
kind form.Others = AnyChoice
kind form.Open = OpenActual
-- ranges and subtypes
kind form.Ascending = Limits false
kind form.Descending = Limits true
kind form.DiscreteSubtype = LimitsOfMark
kind form.UnconstrainedIndex = OpenIndex
kind form.SelectedName = MarkName
kind form.SubtypeIndication = Indication
kind form.IndexConstraint = Constraint
kind form.RangeConstraint = Constraint
-- types
kind form.EnumerationType = Literals
kind form.ArrayType = ArrayDefinition
kind form.RecordType = RecordDefinition
kind form.RecordElements = RecordParts
kind form.RecordElement = RecordPart
-- declarations
kind form.IdentifierList = Identifiers
kind form.TypeDeclaration = NewType
kind form.SubtypeDeclaration = NewSubtype
kind form.ConstantDeclaration = NewConstants
kind form.VariableDeclaration = NewVariables
kind form.SignalDeclaration = NewSignals
kind form.PortDeclaration = NewPorts
kind form.GenericClause = Interfaces
kind form.PortClause = Interfaces
kind form.ParameterList = Interfaces
kind form.ParameterDeclaration = Parameters
kind form.FunctionBody = NewFunction
kind form.DeclarativePart = Declarations
-- generics and instances
kind form.GenericConstant = NewGenerics
kind form.GenericType = NewGenericType
kind form.GenericFunction = NewGenericFunction
kind form.GenericMap = GenericActuals
kind form.FunctionInstantiation = NewInstance
kind form.PackageInstantiation = NewPackageInstance
-- waveforms
kind form.Transport = Transported
kind form.DelayedWaveform = Delayed
kind form.Unaffected = NoWaveform
kind form.ConditionalWaveform = Conditional
kind form.ConditionalValue = Conditional
kind form.ConditionalReturn = Conditional
kind form.GuardedWaveform = Guarded
kind form.GuardedValue = Guarded
-- sequential statements
kind form.Statements = Sequence
kind form.ElseBranch = Sequence
kind form.LabelledStatement = Labelled
kind form.SignalAssignment = AssignSignal
kind form.VariableAssignment = AssignVariable
kind form.SelectedSignalAssignment = SelectSignal
kind form.SelectedVariableAssignment = SelectVariable
kind form.IfStatement = If
kind form.ElsifBranches = Branches
kind form.ElsifBranch = Branch
kind form.CaseStatement = Case
kind form.CaseAlternatives = Alternatives
kind form.CaseAlternative = Alternative
kind form.SelectedWaveform = SelectedAlternative
kind form.SelectedValue = SelectedAlternative
kind form.ForLoop = For
kind form.WhileLoop = WhileTrue
kind form.LoopStatement = Endless
kind form.WaitStatement = Suspend
kind form.SensitivityList = Listed
kind form.AssertStatement = Asserting
kind form.ReportStatement = Reporting
kind form.ReturnStatement = Giving
kind form.ExitStatement = Jumping true
kind form.NextStatement = Jumping false
-- concurrent statements
kind form.All = Everything
kind form.ConcurrentAssignment = AssignConcurrently
kind form.ProcessStatement = OneProcess
kind form.LabelledConcurrent = Concurrent
kind form.StatementPart = Concurrent
-- design units, hierarchy, views and instances are a matter of elaboration; words and closing names mean nothing
kind _ = Parts
