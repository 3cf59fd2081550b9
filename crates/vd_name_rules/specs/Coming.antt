-- What trees are to the node above them, as far as the names in them are used: less than their standing says, since here no place gives bounds.
use Rattle.std.specs.Prelude.{false, true}
use Rattle.vd_forest.specs.Forest.{Forest, more, nothing}
use Rattle.vd_meaning.specs.Tables.{FunctionRole, Role, role_of}
use Rattle.vd_name_rules.specs.declared.coming.Coming.{Coming}
use Rattle.vd_name_rules.specs.declared.coming.Sort.{Sort}
use Rattle.vd_name_rules.specs.declared.coming.Sort.TheVariants.{Associated, Formal, Mapped, Passed, Read, SignalTarget, VariableTarget}
use Rattle.vd_name_rules.specs.declared.rows.Row.{Row}
use Rattle.vd_name_rules.specs.declared.rows.Row.TheVariants as row
use Rattle.vd_resolved.specs.declared.node.Resolved.{Resolved}
use Rattle.vd_value_rules.specs.Designs.{Design}
use Rattle.vd_value_rules.specs.Standings.{Standing}
use Rattle.vd_value_rules.specs.Standings as standings

-- what a standing is
abbrev pub sort_of : Standing → Sort
sort_of (standings.Evaluated bounded) = Read
sort_of (standings.Copied bounded) = Read
sort_of (standings.Passed bounded) = Passed
sort_of (standings.MappedTo generics) = Mapped
sort_of standings.Associated = Associated
sort_of standings.Formal = Formal
sort_of (standings.Assigned true) = SignalTarget
sort_of (standings.Assigned false) = VariableTarget

-- ---- of trees side by side

abbrev pub all_of : Sort → Coming
all_of x = record { first = x; second = x; third = x; fourth = x; last = x }

-- for the next tree
abbrev pub behind : Coming → Coming
behind c = record { first = c.second; second = c.third; third = c.fourth; fourth = c.last; last = c.last }

abbrev pub target : Sort → Coming
target x = record { first = x; second = Read; third = Read; fourth = Read; last = Read }

abbrev pub target_third : Sort → Coming
target_third x = record { first = Read; second = Read; third = x; fourth = Read; last = Read }

-- a waveform or value, its condition, and what stands behind `else`
abbrev pub outer : Sort → Coming
outer own = record { first = own; second = Read; third = own; fourth = own; last = own }

abbrev pub guarded : Sort → Coming
guarded own = target own

-- of an element with `=>`
abbrev pub associated_parts : Sort → Coming
associated_parts Associated = record { first = Formal; second = Associated; third = Associated; fourth = Associated; last = Associated }
associated_parts Passed = target Formal
associated_parts _ = all_of Read

-- what stands in the name of a formal belongs to it
abbrev pub formal_or : Sort → Coming → Coming
formal_or Formal other = all_of Formal
formal_or _ other = other

-- elements that are passed, if there are any
abbrev pub passed : Forest Resolved → Coming
passed nothing = all_of Read
passed (more n text place parts next) = all_of Passed

abbrev pub brackets : Role → Forest Resolved → Coming
brackets FunctionRole parts = passed parts
brackets _ parts = all_of Read

abbrev pub generics : Sort → Forest Resolved → Coming
generics Mapped parts = passed parts
generics _ parts = all_of Passed

abbrev pub mapped_third : Coming
mapped_third = target_third Mapped

abbrev pub mapped_after_two : Coming
mapped_after_two = record { first = Read; second = Read; third = Mapped; fourth = Mapped; last = Mapped }

abbrev pub mapped_after_three : Coming
mapped_after_three = record { first = Read; second = Read; third = Read; fourth = Mapped; last = Mapped }

-- ---- of the parts of a node

abbrev pub passed_by : Row → Design → Sort → Resolved → Forest Resolved → Coming
passed_by row.Brackets d own n parts = formal_or own (brackets (role_of d.table n.declaration) parts)
passed_by row.Generics d own n parts = generics own parts
passed_by row.Ports d own n parts = all_of Associated
passed_by row.EntityInstance d own n parts = mapped_third
passed_by row.PackageInstance d own n parts = mapped_after_two
passed_by row.FunctionInstance d own n parts = mapped_after_three
passed_by row.Operands d own n parts = passed parts
passed_by _ d own n parts = all_of Read

abbrev pub coming_by : Row → Design → Sort → Resolved → Forest Resolved → Coming
coming_by row.ToSignal d own n parts = target SignalTarget
coming_by row.ToVariable d own n parts = target VariableTarget
coming_by row.SelectedToSignal d own n parts = target_third SignalTarget
coming_by row.SelectedToVariable d own n parts = target_third VariableTarget
coming_by row.Branches d own n parts = outer own
coming_by row.Guarded d own n parts = guarded own
coming_by row.Choosing d own n parts = associated_parts own
coming_by row.Naming d own n parts = formal_or own (all_of Read)
coming_by r d own n parts = passed_by r d own n parts
