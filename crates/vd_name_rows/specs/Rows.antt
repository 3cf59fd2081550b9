-- What is done with each form of a tree where names are resolved: a row for each form. (IEEE 1076, design units; declarations; sequential and
-- concurrent statements)
-- A form may open a region; then each of its parts has a step, in the order of the text; and at its end it declares something. What is declared
-- is visible from there on. The enums of the code say what each opening, step and ending is.
use Rattle.std.specs.Prelude.{List, [], ◌∷◌, ◌++◌, if◌then◌else◌}
use Rattle.vd_declarations.specs.declared.classes.Class.{Class}
use Rattle.vd_declarations.specs.declared.classes.Class.TheVariants as class
use Rattle.vd_forms.specs.declared.form.Form.{Form}
use Rattle.vd_forms.specs.declared.form.Form.TheVariants as form
use Rattle.vd_forms.specs.Forms.{same_form}
use Rattle.vd_predefined.specs.declared.numbers.TheConstants.{STRING, SEVERITY_LEVEL, TIME}
use Rattle.vd_name_rows.specs.declared.steps.Object.{Object}
use Rattle.vd_name_rows.specs.declared.steps.Object.TheVariants as object
use Rattle.vd_name_rows.specs.declared.steps.Want.TheVariants.{AtHand, Given, Condition, Free, Choice, Range, Index}
use Rattle.vd_name_rows.specs.declared.steps.Step.{Step}
use Rattle.vd_name_rows.specs.declared.steps.Step.TheVariants.{Skip, Look, Within, Expression, Surplus, Chosen, Word, SimpleName, Names, Label, LabelName, Mark, Result, IndexMark, Target, Selector, Parameter, LibraryWord, UseName, ContextName, EntityWord, ArrayIndex, ViewName, Converse, ViewSubtype, ElementNames, GenericPackage, GenericFunctionName, InstanceEntity, InstanceArchitecture, Generics, Ports}
use Rattle.vd_name_rows.specs.declared.steps.Opening.{Opening}
use Rattle.vd_name_rows.specs.declared.steps.Opening.TheVariants.{Stay, Nested, OfHeader, OfUnit, OfEntity, OfArchitecture, OfPackage, OfPackageBody, OfType, OfSelection, OfReturn, OfElements, OfLabel, OfInstance, InPorts}
use Rattle.vd_name_rows.specs.declared.steps.Ending.{Ending}
use Rattle.vd_name_rows.specs.declared.steps.Ending.TheVariants.{Nothing, First, Typed, Indicated, ClauseEnds, Objects, AllPorts, NewType, NewSubtype, NewView, NewGenericType, NewGenericFunction, NewFunction, BodyEnds, NewFunctionInstance, UnitEnds, NewEntity, NewArchitecture, NewPackage, PackageBodyEnds, NewPackageInstance, NewContext}
use Rattle.vd_name_rows.specs.declared.steps.Row as code

-- the form, what it opens, a step for each of its first parts, one for all others, and what it declares at its end
pub record Row : Type 0 where
  pub form : Form
  pub opening : Opening
  pub steps : List Step
  pub rest : Step
  pub ending : Ending

-- a row of the code
abbrev pub seen_row : code.Row → Row
seen_row r = record { form = r.form; opening = r.opening; steps = r.steps.now; rest = r.rest; ending = r.ending }

-- parts with a step each
abbrev pub of_parts : Form → Opening → List Step → Ending → Row
of_parts f opening steps ending = record { form = f; opening = opening; steps = steps; rest = Skip; ending = ending }

abbrev pub plain : Form → List Step → Row
plain f steps = of_parts f Stay steps Nothing

-- a list
abbrev pub of_list : Form → Step → Row
of_list f step = record { form = f; opening = Stay; steps = []; rest = step; ending = Nothing }

abbrev pub of_list_and_end : Form → Step → Ending → Row
of_list_and_end f step ending = record { form = f; opening = Stay; steps = []; rest = step; ending = ending }

abbrev pub of_parts_and_list : Form → Opening → List Step → Step → Row
of_parts_and_list f opening steps rest = record { form = f; opening = opening; steps = steps; rest = rest; ending = Nothing }

-- ---- rows

-- units and clauses
abbrev pub unit_rows : List Row
unit_rows =
    of_parts form.DesignUnit OfUnit (Look ∷ Look ∷ []) UnitEnds ∷
    of_list form.ContextClause Look ∷
    of_list form.LibraryClause LibraryWord ∷
    of_list form.UseClause UseName ∷
    of_parts form.ContextDeclaration Nested (SimpleName ∷ Look ∷ Skip ∷ []) NewContext ∷
    plain form.ReferringUnit (Look ∷ Look ∷ []) ∷
    of_list form.ContextReference ContextName ∷
    of_list form.ContextItems Look ∷
    plain form.NestedReference (ContextName ∷ []) ∷
    of_parts form.EntityDeclaration OfEntity (Word ∷ Look ∷ Look ∷ Skip ∷ []) NewEntity ∷
    of_parts form.ArchitectureBody OfArchitecture (Word ∷ EntityWord ∷ Look ∷ Look ∷ Skip ∷ []) NewArchitecture ∷
    of_parts form.PackageDeclaration OfPackage (Word ∷ Look ∷ Look ∷ Skip ∷ []) NewPackage ∷
    of_parts form.PackageBody OfPackageBody (Word ∷ Look ∷ Skip ∷ []) PackageBodyEnds ∷
    of_parts form.PackageInstantiation OfInstance (Word ∷ GenericPackage ∷ Generics ∷ []) NewPackageInstance ∷
    []

-- interfaces
abbrev pub interface_rows : List Row
interface_rows =
    of_list_and_end form.GenericClause Look ClauseEnds ∷
    of_parts form.GenericConstant Stay (Skip ∷ Names ∷ Skip ∷ Look ∷ Expression AtHand ∷ []) (Objects object.GenericConstant 1) ∷
    of_parts form.GenericType Stay (Word ∷ []) NewGenericType ∷
    of_parts form.GenericFunction OfHeader (Skip ∷ Word ∷ Look ∷ Mark ∷ Skip ∷ []) NewGenericFunction ∷
    of_list_and_end form.PortClause Look AllPorts ∷
    of_parts form.PortDeclaration InPorts (Skip ∷ Names ∷ Skip ∷ Look ∷ Expression AtHand ∷ []) Typed ∷
    of_parts form.ViewPort InPorts (Skip ∷ Names ∷ ViewName ∷ Converse ∷ ViewSubtype ∷ []) Typed ∷
    of_list form.ParameterList Look ∷
    of_parts form.ParameterDeclaration Stay (Skip ∷ Names ∷ Skip ∷ Look ∷ []) (Objects object.Parameter 1) ∷
    of_parts form.SubtypeIndication Stay (Mark ∷ Look ∷ []) Indicated ∷
    of_parts_and_list form.IndexConstraint Stay (Expression Index ∷ []) Surplus ∷
    plain form.RangeConstraint (Expression Range ∷ []) ∷
    []

-- declarations
abbrev pub declaration_rows : List Row
declaration_rows =
    of_list form.DeclarativePart Look ∷
    of_parts form.ConstantDeclaration Stay (Names ∷ Look ∷ Expression AtHand ∷ []) (Objects object.Constant 0) ∷
    of_parts form.SignalDeclaration Stay (Names ∷ Look ∷ Expression AtHand ∷ []) (Objects object.Signal 0) ∷
    of_parts form.VariableDeclaration Stay (Names ∷ Look ∷ Expression AtHand ∷ []) (Objects object.Variable 0) ∷
    of_parts form.TypeDeclaration OfType (Word ∷ Look ∷ []) NewType ∷
    of_parts form.SubtypeDeclaration Stay (Word ∷ Look ∷ []) NewSubtype ∷
    plain form.ArrayType (ArrayIndex ∷ Look ∷ []) ∷
    of_parts form.UnconstrainedIndex Stay (IndexMark ∷ []) Typed ∷
    plain form.RecordType (Look ∷ Skip ∷ []) ∷
    of_list form.RecordElements Look ∷
    of_parts form.RecordElement Stay (Names ∷ Look ∷ []) (Objects object.RecordElement 0) ∷
    of_parts form.ViewDeclaration Stay (Word ∷ Mark ∷ Look ∷ Skip ∷ []) NewView ∷
    of_parts_and_list form.ViewElements OfElements [] Look ∷
    plain form.ViewElement (ElementNames ∷ Look ∷ []) ∷
    plain form.ViewMode (ViewName ∷ Converse ∷ []) ∷
    of_parts form.FunctionInstantiation OfInstance (Skip ∷ Word ∷ GenericFunctionName ∷ Generics ∷ []) NewFunctionInstance ∷
    of_parts form.FunctionDeclaration OfHeader (Skip ∷ Word ∷ Look ∷ Skip ∷ Look ∷ Mark ∷ []) NewFunction ∷
    of_parts form.FunctionBody OfHeader (Skip ∷ Word ∷ Look ∷ Skip ∷ Look ∷ Result ∷ Look ∷ Look ∷ Skip ∷ []) BodyEnds ∷
    []

-- waveforms, values and choices
abbrev pub value_rows : List Row
value_rows =
    plain form.DelayedWaveform (Expression AtHand ∷ Expression (Given TIME) ∷ []) ∷
    plain form.ConditionalWaveform (Chosen ∷ Expression Condition ∷ Chosen ∷ []) ∷
    plain form.GuardedWaveform (Chosen ∷ Expression Condition ∷ []) ∷
    plain form.ConditionalValue (Expression AtHand ∷ Expression Condition ∷ Chosen ∷ []) ∷
    plain form.GuardedValue (Expression AtHand ∷ Expression Condition ∷ []) ∷
    plain form.ConditionalReturn (Expression AtHand ∷ Expression Condition ∷ Chosen ∷ []) ∷
    plain form.SelectedWaveform (Chosen ∷ Look ∷ []) ∷
    plain form.SelectedValue (Expression AtHand ∷ Look ∷ []) ∷
    of_list form.Choices (Expression Choice) ∷
    []

-- sequential statements
abbrev pub sequential_rows : List Row
sequential_rows =
    of_list form.Statements Look ∷
    of_parts form.LabelledStatement OfLabel (Label ∷ Look ∷ []) Nothing ∷
    plain form.SignalAssignment (Target ∷ Skip ∷ Chosen ∷ []) ∷
    plain form.VariableAssignment (Target ∷ Chosen ∷ []) ∷
    of_parts_and_list form.SelectedSignalAssignment OfSelection (Selector ∷ Skip ∷ Target ∷ Skip ∷ []) Look ∷
    of_parts_and_list form.SelectedVariableAssignment OfSelection (Selector ∷ Skip ∷ Target ∷ []) Look ∷
    plain form.IfStatement (Expression Condition ∷ Look ∷ Look ∷ Look ∷ Skip ∷ []) ∷
    of_list form.ElsifBranches Look ∷
    plain form.ElsifBranch (Expression Condition ∷ Look ∷ []) ∷
    of_list form.ElseBranch Look ∷
    of_parts form.CaseStatement OfSelection (Skip ∷ Selector ∷ Look ∷ Skip ∷ Skip ∷ []) Nothing ∷
    of_list form.CaseAlternatives Look ∷
    plain form.CaseAlternative (Look ∷ Look ∷ []) ∷
    of_parts form.ForLoop Nested (Word ∷ Parameter object.LoopParameter ∷ Look ∷ Skip ∷ []) First ∷
    of_parts form.WhileLoop Nested (Expression Condition ∷ Look ∷ Skip ∷ []) Nothing ∷
    of_parts form.LoopStatement Nested (Look ∷ Skip ∷ []) Nothing ∷
    plain form.WaitStatement (Look ∷ Expression Condition ∷ Expression (Given TIME) ∷ []) ∷
    of_list form.SensitivityList (Expression Free) ∷
    plain form.AssertStatement (Expression Condition ∷ Expression (Given STRING) ∷ Expression (Given SEVERITY_LEVEL) ∷ []) ∷
    plain form.ReportStatement (Expression (Given STRING) ∷ Expression (Given SEVERITY_LEVEL) ∷ []) ∷
    of_parts form.ReturnStatement OfReturn (Chosen ∷ []) Nothing ∷
    plain form.NextStatement (LabelName ∷ Expression Condition ∷ []) ∷
    plain form.ExitStatement (LabelName ∷ Expression Condition ∷ []) ∷
    []

-- concurrent statements
abbrev pub concurrent_rows : List Row
concurrent_rows =
    of_list form.StatementPart Look ∷
    of_parts form.LabelledConcurrent OfLabel (Label ∷ Look ∷ []) Nothing ∷
    plain form.ConcurrentAssignment (Target ∷ Skip ∷ Chosen ∷ []) ∷
    of_parts form.ProcessStatement Nested (Look ∷ Skip ∷ Look ∷ Look ∷ Skip ∷ []) Nothing ∷
    plain form.EntityInstantiation (InstanceEntity ∷ InstanceArchitecture ∷ Generics ∷ Ports ∷ []) ∷
    plain form.IfGenerate (Expression Condition ∷ Look ∷ Look ∷ Look ∷ Skip ∷ []) ∷
    of_list form.ElsifGenerates Look ∷
    plain form.ElsifGenerate (Expression Condition ∷ Look ∷ []) ∷
    of_parts form.ForGenerate Nested (Word ∷ Parameter object.GenerateParameter ∷ Within ∷ Skip ∷ []) First ∷
    of_parts form.CaseGenerate OfSelection (Selector ∷ Look ∷ Skip ∷ []) Nothing ∷
    of_list form.GenerateAlternatives Look ∷
    plain form.GenerateAlternative (Look ∷ Look ∷ []) ∷
    of_parts_and_list form.GenerateBody Nested [] Look ∷
    []

abbrev pub all_rows : List Row
all_rows = unit_rows ++ (interface_rows ++ (declaration_rows ++ (value_rows ++ (sequential_rows ++ concurrent_rows))))

-- words, leaves, and what stands in expressions have none: nothing is named in them by rows
abbrev pub row_in : Form → List Row → Row
row_in f [] = of_list f Skip
row_in f (r ∷ rs) = if same_form r.form f then r else row_in f rs

abbrev pub row_of : Form → Row
row_of f = row_in f all_rows

-- ---- objects

abbrev pub class_of : Object → Class
class_of object.GenericConstant = class.GenericConstant
class_of object.Parameter = class.Parameter
class_of object.Constant = class.Constant
class_of object.Signal = class.Signal
class_of object.Variable = class.Variable
class_of object.RecordElement = class.RecordElement
class_of object.LoopParameter = class.LoopParameter
class_of object.GenerateParameter = class.GenerateParameter
