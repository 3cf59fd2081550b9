-- Forms by number, in the order of their declaration, and lists of forms.
use Rattle.std.specs.Prelude.{ℕ, Bool, ◌&&◌, ◌||◌, not, ◌==◌, List, [], ◌∷◌}
use Rattle.std.specs.List.{list_any}
use Rattle.vd_forms.specs.declared.form.Form.{Form}
use Rattle.vd_forms.specs.declared.form.Form.TheVariants as form

abbrev pub form_number : Form → ℕ
form_number form.DesignUnit = 0
form_number form.ContextClause = 1
form_number form.LibraryClause = 2
form_number form.UseClause = 3
form_number form.ContextDeclaration = 4
form_number form.ReferringUnit = 5
form_number form.ContextReference = 6
form_number form.ContextItems = 7
form_number form.NestedReference = 8
form_number form.Closing = 9
form_number form.ClosingWord = 10
form_number form.Identifier = 11
form_number form.IdentifierList = 12
form_number form.SelectedName = 13
form_number form.Letter = 14
form_number form.Quoted = 15
form_number form.All = 16
form_number form.EntityDeclaration = 17
form_number form.PortClause = 18
form_number form.SignalWord = 19
form_number form.PortDeclaration = 20
form_number form.ViewPort = 21
form_number form.In = 22
form_number form.Out = 23
form_number form.InOut = 24
form_number form.GenericClause = 25
form_number form.GenericConstant = 26
form_number form.GenericType = 27
form_number form.GenericFunction = 28
form_number form.ConstantWord = 29
form_number form.PureWord = 30
form_number form.Box = 31
form_number form.ParameterList = 32
form_number form.ParameterDeclaration = 33
form_number form.SubtypeIndication = 34
form_number form.IndexConstraint = 35
form_number form.RangeConstraint = 36
form_number form.ArchitectureBody = 37
form_number form.DeclarativePart = 38
form_number form.StatementPart = 39
form_number form.PackageBody = 40
form_number form.PackageInstantiation = 41
form_number form.PackageDeclaration = 42
form_number form.GenericMap = 43
form_number form.ConstantDeclaration = 44
form_number form.SignalDeclaration = 45
form_number form.VariableDeclaration = 46
form_number form.TypeDeclaration = 47
form_number form.SubtypeDeclaration = 48
form_number form.ViewDeclaration = 49
form_number form.ViewElements = 50
form_number form.ViewElement = 51
form_number form.ViewMode = 52
form_number form.EnumerationType = 53
form_number form.ArrayType = 54
form_number form.RecordType = 55
form_number form.Ascending = 56
form_number form.Descending = 57
form_number form.UnconstrainedIndex = 58
form_number form.DiscreteSubtype = 59
form_number form.RecordElements = 60
form_number form.RecordElement = 61
form_number form.FunctionInstantiation = 62
form_number form.ParameterWord = 63
form_number form.FunctionDeclaration = 64
form_number form.FunctionBody = 65
form_number form.FunctionClosing = 66
form_number form.Statements = 67
form_number form.LabelledStatement = 68
form_number form.Name = 69
form_number form.SignalAssignment = 70
form_number form.VariableAssignment = 71
form_number form.Transport = 72
form_number form.Inertial = 73
form_number form.Unaffected = 74
form_number form.DelayedWaveform = 75
form_number form.ConditionalWaveform = 76
form_number form.GuardedWaveform = 77
form_number form.ConditionalValue = 78
form_number form.GuardedValue = 79
form_number form.ConditionalReturn = 80
form_number form.IfStatement = 81
form_number form.CaseStatement = 82
form_number form.ForLoop = 83
form_number form.WhileLoop = 84
form_number form.LoopStatement = 85
form_number form.WaitStatement = 86
form_number form.ReportStatement = 87
form_number form.ReturnStatement = 88
form_number form.NextStatement = 89
form_number form.ExitStatement = 90
form_number form.NullStatement = 91
form_number form.SelectedSignalAssignment = 92
form_number form.SelectedVariableAssignment = 93
form_number form.ElsifBranches = 94
form_number form.ElsifBranch = 95
form_number form.ElseBranch = 96
form_number form.Matching = 97
form_number form.CaseAlternatives = 98
form_number form.CaseAlternative = 99
form_number form.SensitivityList = 100
form_number form.AssertStatement = 101
form_number form.SelectedWaveform = 102
form_number form.SelectedValue = 103
form_number form.LabelledConcurrent = 104
form_number form.ConcurrentAssignment = 105
form_number form.ProcessStatement = 106
form_number form.Is = 107
form_number form.EntityInstantiation = 108
form_number form.PortMap = 109
form_number form.IfGenerate = 110
form_number form.ForGenerate = 111
form_number form.CaseGenerate = 112
form_number form.ElsifGenerates = 113
form_number form.ElsifGenerate = 114
form_number form.GenerateAlternatives = 115
form_number form.GenerateAlternative = 116
form_number form.GenerateBody = 117
form_number form.Others = 118
form_number form.Choices = 119
form_number form.Selection = 120
form_number form.Arguments = 121
form_number form.Attribute = 122
form_number form.RangeAttribute = 123
form_number form.Qualification = 124
form_number form.Open = 125
form_number form.OthersAssociation = 126
form_number form.AssociationChoices = 127
form_number form.Association = 128
form_number form.Condition = 129
form_number form.Nand = 130
form_number form.Nor = 131
form_number form.And = 132
form_number form.Or = 133
form_number form.Xor = 134
form_number form.Xnor = 135
form_number form.Equal = 136
form_number form.Unequal = 137
form_number form.Less = 138
form_number form.AtMost = 139
form_number form.Greater = 140
form_number form.AtLeast = 141
form_number form.MatchEqual = 142
form_number form.MatchUnequal = 143
form_number form.MatchLess = 144
form_number form.MatchAtMost = 145
form_number form.MatchGreater = 146
form_number form.MatchAtLeast = 147
form_number form.ShiftLeftLogical = 148
form_number form.ShiftRightLogical = 149
form_number form.ShiftLeftArithmetic = 150
form_number form.ShiftRightArithmetic = 151
form_number form.RotateLeft = 152
form_number form.RotateRight = 153
form_number form.Identity = 154
form_number form.Negation = 155
form_number form.Add = 156
form_number form.Subtract = 157
form_number form.Concatenate = 158
form_number form.Multiply = 159
form_number form.Divide = 160
form_number form.Modulo = 161
form_number form.Remainder = 162
form_number form.Absolute = 163
form_number form.Not = 164
form_number form.AndReduction = 165
form_number form.OrReduction = 166
form_number form.XorReduction = 167
form_number form.XnorReduction = 168
form_number form.NandReduction = 169
form_number form.NorReduction = 170
form_number form.Power = 171
form_number form.Number = 172
form_number form.Bits = 173
form_number form.Aggregate = 174
form_number form.PhysicalLiteral = 175
form_number form.OperatorName = 176
form_number form.Absent = 177

abbrev pub same_form : Form → Form → Bool
same_form f g = form_number f == form_number g

-- the form is one of these
abbrev pub is_among : List Form → Form → Bool
is_among fs f = list_any (same_form f) fs

-- expressions
abbrev pub expressions : List Form
expressions =
    form.Letter ∷ form.Quoted ∷ form.Name ∷ form.Condition ∷ form.Nand ∷ form.Nor ∷ form.And ∷ form.Or ∷ form.Xor ∷
    form.Xnor ∷ form.Equal ∷ form.Unequal ∷ form.Less ∷ form.AtMost ∷ form.Greater ∷ form.AtLeast ∷ form.MatchEqual ∷
    form.MatchUnequal ∷ form.MatchLess ∷ form.MatchAtMost ∷ form.MatchGreater ∷ form.MatchAtLeast ∷ form.ShiftLeftLogical
    ∷ form.ShiftRightLogical ∷ form.ShiftLeftArithmetic ∷ form.ShiftRightArithmetic ∷ form.RotateLeft ∷ form.RotateRight ∷
    form.Identity ∷ form.Negation ∷ form.Add ∷ form.Subtract ∷ form.Concatenate ∷ form.Multiply ∷ form.Divide ∷
    form.Modulo ∷ form.Remainder ∷ form.Absolute ∷ form.Not ∷ form.AndReduction ∷ form.OrReduction ∷ form.XorReduction ∷
    form.XnorReduction ∷ form.NandReduction ∷ form.NorReduction ∷ form.Power ∷ form.Number ∷ form.Bits ∷ form.Aggregate ∷
    form.PhysicalLiteral ∷ form.OperatorName ∷ []

-- what an association gives
abbrev pub actuals : List Form
actuals =
    form.Open ∷ expressions

-- elements of a list in brackets
abbrev pub elements : List Form
elements =
    form.Ascending ∷ form.Descending ∷ form.Open ∷ form.OthersAssociation ∷ form.Association ∷ expressions

-- choices, and ranges of loops
abbrev pub ranges : List Form
ranges =
    form.Ascending ∷ form.Descending ∷ form.DiscreteSubtype ∷ expressions

-- waveforms without conditions
abbrev pub plain_waveforms : List Form
plain_waveforms =
    form.Unaffected ∷ form.DelayedWaveform ∷ expressions

-- waveforms, which may have conditions
abbrev pub waveforms : List Form
waveforms =
    form.ConditionalWaveform ∷ form.GuardedWaveform ∷ plain_waveforms

-- sequential statements
abbrev pub unlabelled_sequential : List Form
unlabelled_sequential =
    form.SignalAssignment ∷ form.VariableAssignment ∷ form.IfStatement ∷ form.CaseStatement ∷ form.ForLoop ∷
    form.WhileLoop ∷ form.LoopStatement ∷ form.WaitStatement ∷ form.ReportStatement ∷ form.ReturnStatement ∷
    form.NextStatement ∷ form.ExitStatement ∷ form.NullStatement ∷ form.SelectedVariableAssignment ∷ form.AssertStatement
    ∷ []

-- and those with a label
abbrev pub sequential_statements : List Form
sequential_statements =
    form.LabelledStatement ∷ unlabelled_sequential

-- concurrent statements
abbrev pub concurrent_statements : List Form
concurrent_statements =
    form.SelectedSignalAssignment ∷ form.AssertStatement ∷ form.LabelledConcurrent ∷ form.ConcurrentAssignment ∷
    form.ProcessStatement ∷ []

-- what a label may stand at
abbrev pub unlabelled_concurrent : List Form
unlabelled_concurrent =
    form.SelectedSignalAssignment ∷ form.AssertStatement ∷ form.ConcurrentAssignment ∷ form.ProcessStatement ∷
    form.EntityInstantiation ∷ form.IfGenerate ∷ form.ForGenerate ∷ form.CaseGenerate ∷ []

-- declarations
abbrev pub declarations : List Form
declarations =
    form.UseClause ∷ form.ConstantDeclaration ∷ form.SignalDeclaration ∷ form.VariableDeclaration ∷ form.TypeDeclaration ∷
    form.SubtypeDeclaration ∷ form.ViewDeclaration ∷ form.FunctionInstantiation ∷ form.FunctionDeclaration ∷
    form.FunctionBody ∷ []

-- suffixes of a name
abbrev pub suffixes : List Form
suffixes =
    form.Selection ∷ form.Arguments ∷ form.Attribute ∷ form.RangeAttribute ∷ form.Qualification ∷ []

-- the forms that only trees of revision 2019 have
abbrev pub forms_of_2019_alone : List Form
forms_of_2019_alone =
    form.ContextDeclaration ∷ form.ReferringUnit ∷ form.ContextReference ∷ form.ContextItems ∷ form.NestedReference ∷
    form.ViewPort ∷ form.GenericType ∷ form.GenericFunction ∷ form.Box ∷ form.PackageInstantiation ∷ form.ViewDeclaration
    ∷ form.ViewElements ∷ form.ViewElement ∷ form.ViewMode ∷ form.FunctionInstantiation ∷ form.ParameterWord ∷
    form.ConditionalValue ∷ form.GuardedValue ∷ form.ConditionalReturn ∷ form.SelectedVariableAssignment ∷ form.Matching ∷
    form.SelectedValue ∷ form.CaseGenerate ∷ form.ElsifGenerate ∷ form.GenerateAlternatives ∷ form.GenerateAlternative ∷
    form.Condition ∷ form.MatchEqual ∷ form.MatchUnequal ∷ form.MatchLess ∷ form.MatchAtMost ∷ form.MatchGreater ∷
    form.MatchAtLeast ∷ form.AndReduction ∷ form.OrReduction ∷ form.XorReduction ∷ form.XnorReduction ∷ form.NandReduction
    ∷ form.NorReduction ∷ []

-- forms that stand for a list of parts and nothing else
abbrev pub lists : List Form
lists =
    form.ContextClause ∷ form.ContextItems ∷ form.IdentifierList ∷ form.DeclarativePart ∷ form.StatementPart ∷
    form.ViewElements ∷ form.RecordElements ∷ form.Statements ∷ form.ElsifBranches ∷ form.CaseAlternatives ∷
    form.SensitivityList ∷ form.ElsifGenerates ∷ form.GenerateAlternatives ∷ form.Choices ∷ form.AssociationChoices ∷ []

-- forms with a text
abbrev pub leaves : List Form
leaves =
    form.Identifier ∷ form.Letter ∷ form.Quoted ∷ form.Number ∷ form.Bits ∷ []

-- all sequential statements, with a label and without
abbrev pub all_sequential_statements : List Form
all_sequential_statements =
    form.SelectedSignalAssignment ∷ sequential_statements

-- all concurrent statements, with a label and without
abbrev pub all_concurrent_statements : List Form
all_concurrent_statements =
    form.LabelledConcurrent ∷ unlabelled_concurrent

-- a node of the weight is neither a leaf nor a list
abbrev pub is_weighed : Form → Bool
is_weighed f = not (is_among leaves f) && not (is_among lists f)

-- the grammar's depth is that of expressions and statements
abbrev pub is_marked : Form → Bool
is_marked f = is_among expressions f || (is_among all_sequential_statements f || is_among all_concurrent_statements f)
