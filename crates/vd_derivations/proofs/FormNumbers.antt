-- Forms with one number are one form.
use Rattle.std.proofs.Common.{◌≡◌, ℕ, Bool, true, ◌==◌, List, [], ◌∷◌, map, slice_index_or, inl, inr, refl, sym, ap, ◌∙◌, subst, arith}
use Rattle.std.specs.List.{list_all}
use Rattle.std.proofs.lemmas.Bool.{and_parts, or_cases, false≢true}
use Rattle.vd_forms.specs.declared.form.Form.{Form}
use Rattle.vd_forms.specs.declared.form.Form.TheVariants as form
use Rattle.vd_forms.specs.Forms.{form_number, same_form, is_among, forms_of_2019_alone}
use Rattle.vd_derivations.specs.Checks.{is_late}

-- the forms, in the order of their numbers
abbrev all_forms : List Form
all_forms =
    form.DesignUnit ∷ form.ContextClause ∷ form.LibraryClause ∷ form.UseClause ∷ form.ContextDeclaration ∷
    form.ReferringUnit ∷ form.ContextReference ∷ form.ContextItems ∷ form.NestedReference ∷ form.Closing ∷
    form.ClosingWord ∷ form.Identifier ∷ form.IdentifierList ∷ form.SelectedName ∷ form.Letter ∷ form.Quoted ∷
    form.All ∷ form.EntityDeclaration ∷ form.PortClause ∷ form.SignalWord ∷ form.PortDeclaration ∷ form.ViewPort ∷
    form.In ∷ form.Out ∷ form.InOut ∷ form.GenericClause ∷ form.GenericConstant ∷ form.GenericType ∷
    form.GenericFunction ∷ form.ConstantWord ∷ form.PureWord ∷ form.Box ∷ form.ParameterList ∷
    form.ParameterDeclaration ∷ form.SubtypeIndication ∷ form.IndexConstraint ∷ form.RangeConstraint ∷
    form.ArchitectureBody ∷ form.DeclarativePart ∷ form.StatementPart ∷ form.PackageBody ∷
    form.PackageInstantiation ∷ form.PackageDeclaration ∷ form.GenericMap ∷ form.ConstantDeclaration ∷
    form.SignalDeclaration ∷ form.VariableDeclaration ∷ form.TypeDeclaration ∷ form.SubtypeDeclaration ∷
    form.ViewDeclaration ∷ form.ViewElements ∷ form.ViewElement ∷ form.ViewMode ∷ form.EnumerationType ∷
    form.ArrayType ∷ form.RecordType ∷ form.Ascending ∷ form.Descending ∷ form.UnconstrainedIndex ∷
    form.DiscreteSubtype ∷ form.RecordElements ∷ form.RecordElement ∷ form.FunctionInstantiation ∷
    form.ParameterWord ∷ form.FunctionDeclaration ∷ form.FunctionBody ∷ form.FunctionClosing ∷ form.Statements ∷
    form.LabelledStatement ∷ form.Name ∷ form.SignalAssignment ∷ form.VariableAssignment ∷ form.Transport ∷
    form.Inertial ∷ form.Unaffected ∷ form.DelayedWaveform ∷ form.ConditionalWaveform ∷ form.GuardedWaveform ∷
    form.ConditionalValue ∷ form.GuardedValue ∷ form.ConditionalReturn ∷ form.IfStatement ∷ form.CaseStatement ∷
    form.ForLoop ∷ form.WhileLoop ∷ form.LoopStatement ∷ form.WaitStatement ∷ form.ReportStatement ∷
    form.ReturnStatement ∷ form.NextStatement ∷ form.ExitStatement ∷ form.NullStatement ∷
    form.SelectedSignalAssignment ∷ form.SelectedVariableAssignment ∷ form.ElsifBranches ∷ form.ElsifBranch ∷
    form.ElseBranch ∷ form.Matching ∷ form.CaseAlternatives ∷ form.CaseAlternative ∷ form.SensitivityList ∷
    form.AssertStatement ∷ form.SelectedWaveform ∷ form.SelectedValue ∷ form.LabelledConcurrent ∷
    form.ConcurrentAssignment ∷ form.ProcessStatement ∷ form.Is ∷ form.EntityInstantiation ∷ form.PortMap ∷
    form.IfGenerate ∷ form.ForGenerate ∷ form.CaseGenerate ∷ form.ElsifGenerates ∷ form.ElsifGenerate ∷
    form.GenerateAlternatives ∷ form.GenerateAlternative ∷ form.GenerateBody ∷ form.Others ∷ form.Choices ∷
    form.Selection ∷ form.Arguments ∷ form.Attribute ∷ form.RangeAttribute ∷ form.Qualification ∷ form.Open ∷
    form.OthersAssociation ∷ form.AssociationChoices ∷ form.Association ∷ form.Condition ∷ form.Nand ∷ form.Nor ∷
    form.And ∷ form.Or ∷ form.Xor ∷ form.Xnor ∷ form.Equal ∷ form.Unequal ∷ form.Less ∷ form.AtMost ∷ form.Greater ∷
    form.AtLeast ∷ form.MatchEqual ∷ form.MatchUnequal ∷ form.MatchLess ∷ form.MatchAtMost ∷ form.MatchGreater ∷
    form.MatchAtLeast ∷ form.ShiftLeftLogical ∷ form.ShiftRightLogical ∷ form.ShiftLeftArithmetic ∷
    form.ShiftRightArithmetic ∷ form.RotateLeft ∷ form.RotateRight ∷ form.Identity ∷ form.Negation ∷ form.Add ∷
    form.Subtract ∷ form.Concatenate ∷ form.Multiply ∷ form.Divide ∷ form.Modulo ∷ form.Remainder ∷ form.Absolute ∷
    form.Not ∷ form.AndReduction ∷ form.OrReduction ∷ form.XorReduction ∷ form.XnorReduction ∷ form.NandReduction ∷
    form.NorReduction ∷ form.Power ∷ form.Number ∷ form.Bits ∷ form.Aggregate ∷ form.PhysicalLiteral ∷
    form.OperatorName ∷ form.Absent ∷ []

form_with : (f : Form) → slice_index_or all_forms (form_number f) form.Absent ≡ f
form_with f = go f
  where
    go : (g : Form) → slice_index_or all_forms (form_number g) form.Absent ≡ g
    go form.Absent = refl
    go _ = refl

pub same_is : (f g : Form) → same_form f g ≡ true → f ≡ g
same_is f g e = sym (form_with f) ∙ ap (λ n. slice_index_or all_forms n form.Absent) (number_is (form_number f) (form_number g) e) ∙ form_with g
  where
    number_is : (m n : ℕ) → (m == n) ≡ true → m ≡ n
    number_is m n h = grind arith

-- what holds of each form of a list
pub all_hold : (p : Form → Bool) (fs : List Form) (f : Form) → list_all p fs ≡ true → is_among fs f ≡ true → p f ≡ true
all_hold p [] f h e = absurd (false≢true e)
all_hold p (g ∷ fs) f h e =
    let both = and_parts (p g) (list_all p fs) h in
    elim (or_cases (same_form f g) (is_among fs f) e) [
      | inl same ↦ subst (λ x. p x ≡ true) (sym (same_is f g same)) both.0
      | inr later ↦ all_hold p fs f both.1 later
    ]

-- what is equal for each form of a list
pub all_same : {X : Type 0} (a b : Form → X) (fs : List Form) (f : Form) → map a fs ≡ map b fs → is_among fs f ≡ true → a f ≡ b f
all_same a b [] f h e = absurd (false≢true e)
all_same a b (g ∷ fs) f h e =
    let here : a g ≡ b g = cc in
    let there : map a fs ≡ map b fs = cc in
    elim (or_cases (same_form f g) (is_among fs f) e) [
      | inl same ↦ subst (λ x. a x ≡ b x) (sym (same_is f g same)) here
      | inr later ↦ all_same a b fs f there later
    ]

-- a form of 1993 isn't late
pub late_is : (f : Form) → is_late (form_number f) ≡ is_among forms_of_2019_alone f
late_is form.Absent = refl
late_is _ = refl
