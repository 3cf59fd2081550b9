-- Forms, by what their parts are to them.
use Rattle.std.specs.Prelude.{Bool, [], List, if◌then◌else◌, false, true, ◌∷◌}
use Rattle.vd_environments.specs.Environments.{Env}
use Rattle.vd_forest.specs.Forest.{Forest}
use Rattle.vd_forms.specs.declared.form.Form.{Form}
use Rattle.vd_meaning.specs.Declarations.{has_bounds}
use Rattle.vd_meaning.specs.Kinds.{kind}
use Rattle.vd_meaning.specs.Meanings.{meanings}
use Rattle.vd_meaning.specs.Names.{number_or}
use Rattle.vd_meaning.specs.Tables.{followed, role_of}
use Rattle.vd_resolved.specs.declared.node.Resolved.{Resolved}
use Rattle.vd_contexts.specs.declared.rows.Row.{Row}
use Rattle.vd_contexts.specs.declared.rows.Row.TheVariants as row
use Rattle.vd_contexts.specs.declared.rows.Sort.{Sort}
use Rattle.vd_contexts.specs.declared.rows.Sort.TheVariants.{Bounded, Fixed, Mapped, Passed}
use Rattle.vd_value_rules.specs.Designs.{Design}
use Rattle.vd_value_rules.specs.Knowledge.{indicated, meaning_at, parts_at}
use Rattle.vd_value_rules.specs.Standings.{Assigned, Associated, Copied, Evaluated, MappedTo, Standing, State, generics_of, in_brackets, is_bounded, is_bounded_indicated, is_bounded_object, is_one_element, is_operator_kind, none_but, parts_of_association, parts_of_generic_map, passed_to_function, standing, unless_formal}
use Rattle.vd_forms.specs.declared.form.Form.TheVariants as form

abbrev pub row_of_operator : Form → Row
row_of_operator f = if is_operator_kind (kind f) then row.Operands else row.Reading

abbrev pub row_of : Form → Row
row_of form.ConstantDeclaration = row.ConstantValue
row_of form.GenericConstant = row.GenericDefault
row_of form.SignalDeclaration = row.InitialValue
row_of form.VariableDeclaration = row.InitialValue
row_of form.PortDeclaration = row.PortDefault
row_of form.SignalAssignment = row.ToSignal
row_of form.ConcurrentAssignment = row.ToSignal
row_of form.VariableAssignment = row.ToVariable
row_of form.SelectedSignalAssignment = row.SelectedToSignal
row_of form.SelectedVariableAssignment = row.SelectedToVariable
row_of form.ReturnStatement = row.Returned
row_of form.ConditionalWaveform = row.Branches
row_of form.ConditionalValue = row.Branches
row_of form.ConditionalReturn = row.Branches
row_of form.GuardedWaveform = row.Guarded
row_of form.GuardedValue = row.Guarded
row_of form.DelayedWaveform = row.Guarded
row_of form.SelectedWaveform = row.Guarded
row_of form.SelectedValue = row.Guarded
row_of form.Aggregate = row.Elements
row_of form.Qualification = row.Qualified
row_of form.Association = row.Choosing
row_of form.OthersAssociation = row.Remaining
row_of form.AssociationChoices = row.Naming
row_of form.Name = row.Naming
row_of form.OperatorName = row.Naming
row_of form.Arguments = row.Brackets
row_of form.GenericMap = row.Generics
row_of form.PortMap = row.Ports
row_of form.EntityInstantiation = row.EntityInstance
row_of form.PackageInstantiation = row.PackageInstance
row_of form.FunctionInstantiation = row.FunctionInstance
row_of f = row_of_operator f

-- ---- rows that hang on what the node is itself alone

abbrev pub assigned : Row → List Standing
assigned row.ToSignal = Assigned true ∷ Evaluated false ∷ Evaluated true ∷ []
assigned row.ToVariable = Assigned false ∷ Evaluated true ∷ []
assigned row.SelectedToSignal = none_but (none_but (Assigned true ∷ Evaluated false ∷ Evaluated true ∷ []))
assigned row.SelectedToVariable = none_but (none_but (Assigned false ∷ Evaluated true ∷ []))
assigned row.InitialValue = Evaluated true ∷ []
assigned row.PortDefault = none_but (none_but (none_but (Copied false ∷ Evaluated true ∷ [])))
assigned row.Ports = Associated ∷ []
assigned _ = []

abbrev pub fixed : Row → Standing → List Standing
fixed row.Branches own = own ∷ Evaluated false ∷ own ∷ []
fixed row.Guarded own = own ∷ Evaluated false ∷ []
fixed row.Choosing own = parts_of_association own
fixed row.Remaining own = Evaluated (is_bounded own) ∷ []
fixed row.Naming own = unless_formal own []
fixed r own = assigned r

-- ---- instances, by the unit whose generics a map is for

abbrev pub mapped : Row → Design → Forest Resolved → List Standing
mapped row.EntityInstance d parts = none_but (none_but (MappedTo (generics_of d (meaning_at d 0 parts).declaration) ∷ Evaluated false ∷ []))
mapped row.PackageInstance d parts = none_but (none_but (MappedTo (generics_of d (meaning_at d 1 parts).declaration) ∷ []))
mapped row.FunctionInstance d parts = none_but (none_but (none_but (MappedTo (generics_of d (meaning_at d 2 parts).declaration) ∷ [])))
mapped _ d parts = []

-- ---- what is passed

abbrev pub passed_by : Row → Design → Env → Standing → Resolved → Forest Resolved → List Standing
passed_by row.Brackets d e own n parts =
    unless_formal own (in_brackets (role_of d.table n.declaration) d e (number_or n.declaration) (meanings d.table parts))
passed_by row.Generics d e own n parts = parts_of_generic_map own e (meanings d.table parts)
passed_by row.Operands d e own n parts = passed_to_function d e (followed d.table (number_or n.declaration)) (meanings d.table parts)
passed_by _ d e own n parts = []

-- ---- rows that hang on bounds of what is known

abbrev pub one_evaluated : Bool → List Standing
one_evaluated b = Evaluated b ∷ []

abbrev pub bounded_by : Row → Design → State → Resolved → Forest Resolved → List Standing
bounded_by row.ConstantValue d s n parts =
    none_but (none_but (Evaluated (is_bounded_indicated (indicated d false s.known (parts_at 1 parts))) ∷ []))
bounded_by row.GenericDefault d s n parts =
    none_but (none_but (none_but (none_but (Copied (is_bounded_indicated (indicated d false s.known (parts_at 3 parts))) ∷ []))))
bounded_by row.Returned d s n parts = Evaluated (has_bounds s.known.env.result) ∷ []
bounded_by row.Elements d s n parts = Evaluated (if is_one_element (meanings d.table parts) then is_bounded (standing s) else true) ∷ []
bounded_by row.Qualified d s n parts =
    Evaluated (if is_one_element (meanings d.table parts) then is_bounded_object s.known.env (number_or n.declaration) else true) ∷ []
bounded_by _ d s n parts = []

-- ---- all rows

abbrev pub sort : Row → Sort
sort row.ConstantValue = Bounded
sort row.GenericDefault = Bounded
sort row.Returned = Bounded
sort row.Elements = Bounded
sort row.Qualified = Bounded
sort row.Brackets = Passed
sort row.Generics = Passed
sort row.Operands = Passed
sort row.EntityInstance = Mapped
sort row.PackageInstance = Mapped
sort row.FunctionInstance = Mapped
sort _ = Fixed

abbrev pub by_sort : Sort → Row → Design → State → Resolved → Forest Resolved → List Standing
by_sort Fixed r d s n parts = fixed r (standing s)
by_sort Mapped r d s n parts = mapped r d parts
by_sort Passed r d s n parts = passed_by r d s.known.env (standing s) n parts
by_sort Bounded r d s n parts = bounded_by r d s n parts

abbrev pub by_row : Row → Design → State → Resolved → Forest Resolved → List Standing
by_row r d s n parts = by_sort (sort r) r d s n parts
