-- What the parts of a node are to it, in the states of the rules and in the smaller ones.
use Rattle.std.proofs.Common.{◌≡◌, ℕ, zero, suc, Bool, true, false, cond, List, [], ◌∷◌, refl}
use Rattle.vd_environments.specs.Environments.{Env}
use Rattle.vd_forest.specs.Forest.{Forest, more, nothing}
use Rattle.vd_forms.specs.declared.form.Form.{Form}
use Rattle.vd_meaning.specs.Declarations.{has_bounds}
use Rattle.vd_meaning.specs.Facets.{Meaning}
use Rattle.vd_meaning.specs.Kinds.{kind}
use Rattle.vd_meaning.specs.Meanings.{meanings}
use Rattle.vd_meaning.specs.Names.{number_or}
use Rattle.vd_meaning.specs.Tables.{ConstantRole, ElementRole, FunctionRole, LiteralRole, MarkRole, NoRole, Role, SignalRole, Table, VariableRole, followed, role_of}
use Rattle.vd_name_rules.specs.Coming.{all_of, associated_parts, behind, brackets, coming_by, formal_or, generics, passed, sort_of}
use Rattle.vd_name_rules.specs.Rows.{row_of}
use Rattle.vd_name_rules.specs.declared.coming.Coming.{Coming}
use Rattle.vd_name_rules.specs.declared.coming.Sort.{Sort}
use Rattle.vd_name_rules.specs.declared.coming.Sort.TheVariants.{Passed, Read}
use Rattle.vd_name_rules.specs.declared.rows.Row.TheVariants.{Operands, Reading}
use Rattle.vd_resolved.specs.declared.node.Resolved.{Resolved}
use Rattle.vd_value_rules.specs.Designs.{Design}
use Rattle.vd_value_rules.specs.Knowledge.{indicated, meaning_at, parts_at}
use Rattle.vd_value_rules.specs.Standings as standings
use Rattle.vd_value_rules.specs.Standings.{Standing, State, first_standing, further_numbers, further_standings, in_brackets, is_operator_kind, parts_of_association, parts_of_generic_map, passed_to_function, standing, unless_formal}
use Rattle.vd_forms.specs.declared.form.Form.TheVariants as form

-- ---- of the trees side by side, one after the other

abbrev pub standing_after : ℕ → List Standing → Standing
standing_after zero xs = first_standing xs
standing_after (suc k) xs = standing_after k (further_standings xs)

abbrev pub sort_after : ℕ → Coming → Sort
sort_after zero c = c.first
sort_after (suc k) c = sort_after k (behind c)

-- both say the same of each tree
abbrev pub AreAlike : List Standing → Coming → Type 0
AreAlike xs c = (k : ℕ) → sort_of (standing_after k xs) ≡ sort_after k c

pub row0 : AreAlike [] (all_of Read)
row0 zero = refl
row0 (suc k) = row0 k

row1 : (a : Standing) → AreAlike (a ∷ []) (all_of (sort_of a))
row1 a zero = refl
row1 a (suc k) = row1 a k

abbrev five : Sort → Sort → Sort → Sort → Sort → Coming
five a b c d e = record { first = a; second = b; third = c; fourth = d; last = e }

row2 : (a b : Standing) → AreAlike (a ∷ b ∷ []) (five (sort_of a) (sort_of b) (sort_of b) (sort_of b) (sort_of b))
row2 a b zero = refl
row2 a b (suc k) = row1 b k

row3 : (a b c : Standing) → AreAlike (a ∷ b ∷ c ∷ []) (five (sort_of a) (sort_of b) (sort_of c) (sort_of c) (sort_of c))
row3 a b c zero = refl
row3 a b c (suc k) = row2 b c k

row4 : (a b c d : Standing) → AreAlike (a ∷ b ∷ c ∷ d ∷ []) (five (sort_of a) (sort_of b) (sort_of c) (sort_of d) (sort_of d))
row4 a b c d zero = refl
row4 a b c d (suc k) = row3 b c d k

row5 : (a b c d e : Standing) → AreAlike (a ∷ b ∷ c ∷ d ∷ e ∷ []) (five (sort_of a) (sort_of b) (sort_of c) (sort_of d) (sort_of e))
row5 a b c d e zero = refl
row5 a b c d e (suc k) = row4 b c d e k

-- ---- what is passed

passed_each : (is : ℕ → Bool) (ns : List ℕ) (m : Meaning) (ms : List Meaning) → AreAlike (standings.passed is ns (m ∷ ms)) (all_of Passed)
passed_each is ns m ms zero = refl
passed_each is ns m [] (suc k) = passed_each is ns m [] k
passed_each is ns m (l ∷ ms) (suc k) = passed_each is (further_numbers ns) l ms k

passed_row : (is : ℕ → Bool) (ns : List ℕ) (t : Table) (parts : Forest Resolved) → AreAlike (standings.passed is ns (meanings t parts)) (passed parts)
passed_row is ns t nothing = row0
passed_row is ns t (more n text place inside next) =
    passed_each is ns (Rattle.vd_meaning.specs.Meanings.node_meaning t n text place (meanings t inside)) (meanings t next)

-- ---- by what a node is itself

choosing_row : (a : Standing) → AreAlike (parts_of_association a) (associated_parts (sort_of a))
choosing_row (standings.Evaluated b) = row2 (standings.Evaluated false) (standings.Evaluated b)
choosing_row (standings.Copied b) = row2 (standings.Evaluated false) (standings.Evaluated b)
choosing_row (standings.Passed b) = row2 standings.Formal (standings.Evaluated b)
choosing_row (standings.MappedTo ns) = row2 (standings.Evaluated false) (standings.Evaluated false)
choosing_row standings.Associated = row2 standings.Formal standings.Associated
choosing_row standings.Formal = row2 (standings.Evaluated false) (standings.Evaluated false)
choosing_row (standings.Assigned true) = row2 (standings.Evaluated false) (standings.Evaluated false)
choosing_row (standings.Assigned false) = row2 (standings.Evaluated false) (standings.Evaluated false)

naming_row : (a : Standing) (xs : List Standing) (other : Coming) → AreAlike xs other → AreAlike (unless_formal a xs) (formal_or (sort_of a) other)
naming_row (standings.Evaluated b) xs other alike = alike
naming_row (standings.Copied b) xs other alike = alike
naming_row (standings.Passed b) xs other alike = alike
naming_row (standings.MappedTo ns) xs other alike = alike
naming_row standings.Associated xs other alike = alike
naming_row standings.Formal xs other alike = row1 standings.Formal
naming_row (standings.Assigned true) xs other alike = alike
naming_row (standings.Assigned false) xs other alike = alike

brackets_row : (r : Role) (d : Design) (e : Env) (f : ℕ) (parts : Forest Resolved) → AreAlike (in_brackets r d e f (meanings d.table parts)) (brackets r parts)
brackets_row FunctionRole d e f parts =
    passed_row (standings.is_bounded_parameter d e (followed d.table f)) (d.table.declared (followed d.table f)).parameters d.table parts
brackets_row ConstantRole d e f parts = row1 (standings.Evaluated false)
brackets_row VariableRole d e f parts = row1 (standings.Evaluated false)
brackets_row SignalRole d e f parts = row1 (standings.Evaluated false)
brackets_row LiteralRole d e f parts = row1 (standings.Evaluated false)
brackets_row MarkRole d e f parts = row1 (standings.Evaluated false)
brackets_row ElementRole d e f parts = row1 (standings.Evaluated false)
brackets_row NoRole d e f parts = row1 (standings.Evaluated false)

generics_row : (a : Standing) (e : Env) (t : Table) (parts : Forest Resolved) → AreAlike (parts_of_generic_map a e (meanings t parts)) (generics (sort_of a) parts)
generics_row (standings.Evaluated b) e t parts = row1 (standings.Passed false)
generics_row (standings.Copied b) e t parts = row1 (standings.Passed false)
generics_row (standings.Passed b) e t parts = row1 (standings.Passed false)
generics_row (standings.MappedTo ns) e t parts = passed_row (standings.is_bounded_object e) ns t parts
generics_row standings.Associated e t parts = row1 (standings.Passed false)
generics_row standings.Formal e t parts = row1 (standings.Passed false)
generics_row (standings.Assigned true) e t parts = row1 (standings.Passed false)
generics_row (standings.Assigned false) e t parts = row1 (standings.Passed false)

operands_row : (b : Bool) (d : Design) (e : Env) (f : ℕ) (own : Sort) (n : Resolved) (parts : Forest Resolved)
    → AreAlike (cond b (passed_to_function d e f (meanings d.table parts)) []) (coming_by (cond b Operands Reading) d own n parts)
operands_row true d e f own n parts = passed_row (standings.is_bounded_parameter d e f) (d.table.declared f).parameters d.table parts
operands_row false d e f own n parts = row0

pub parts_alike : (f : Form) (d : Design) (s : State) (n : Resolved) (parts : Forest Resolved)
    → AreAlike (standings.standings f d s n parts) (coming_by (row_of f) d (sort_of (standing s)) n parts)
parts_alike form.ConstantDeclaration d s n parts = row3 (standings.Evaluated false) (standings.Evaluated false) (standings.Evaluated (standings.is_bounded_indicated (indicated d false s.known (parts_at 1 parts))))
parts_alike form.SignalDeclaration d s n parts = row1 (standings.Evaluated true)
parts_alike form.VariableDeclaration d s n parts = row1 (standings.Evaluated true)
parts_alike form.PortDeclaration d s n parts = row5 (standings.Evaluated false) (standings.Evaluated false) (standings.Evaluated false) (standings.Copied false) (standings.Evaluated true)
parts_alike form.GenericConstant d s n parts = row5 (standings.Evaluated false) (standings.Evaluated false) (standings.Evaluated false) (standings.Evaluated false) (standings.Copied (standings.is_bounded_indicated (indicated d false s.known (parts_at 3 parts))))
parts_alike form.SignalAssignment d s n parts = row3 (standings.Assigned true) (standings.Evaluated false) (standings.Evaluated true)
parts_alike form.ConcurrentAssignment d s n parts = row3 (standings.Assigned true) (standings.Evaluated false) (standings.Evaluated true)
parts_alike form.VariableAssignment d s n parts = row2 (standings.Assigned false) (standings.Evaluated true)
parts_alike form.SelectedSignalAssignment d s n parts = row5 (standings.Evaluated false) (standings.Evaluated false) (standings.Assigned true) (standings.Evaluated false) (standings.Evaluated true)
parts_alike form.SelectedVariableAssignment d s n parts = row4 (standings.Evaluated false) (standings.Evaluated false) (standings.Assigned false) (standings.Evaluated true)
parts_alike form.ReturnStatement d s n parts = row1 (standings.Evaluated (has_bounds s.known.env.result))
parts_alike form.ConditionalWaveform d s n parts = row3 (standing s) (standings.Evaluated false) (standing s)
parts_alike form.ConditionalValue d s n parts = row3 (standing s) (standings.Evaluated false) (standing s)
parts_alike form.ConditionalReturn d s n parts = row3 (standing s) (standings.Evaluated false) (standing s)
parts_alike form.GuardedWaveform d s n parts = row2 (standing s) (standings.Evaluated false)
parts_alike form.GuardedValue d s n parts = row2 (standing s) (standings.Evaluated false)
parts_alike form.DelayedWaveform d s n parts = row2 (standing s) (standings.Evaluated false)
parts_alike form.SelectedWaveform d s n parts = row2 (standing s) (standings.Evaluated false)
parts_alike form.SelectedValue d s n parts = row2 (standing s) (standings.Evaluated false)
parts_alike form.Aggregate d s n parts = row1 (standings.Evaluated (cond (standings.is_one_element (meanings d.table parts)) (standings.is_bounded (standing s)) true))
parts_alike form.Qualification d s n parts = row1 (standings.Evaluated (cond (standings.is_one_element (meanings d.table parts)) (standings.is_bounded_object s.known.env (number_or n.declaration)) true))
parts_alike form.Association d s n parts = choosing_row (standing s)
parts_alike form.OthersAssociation d s n parts = row1 (standings.Evaluated (standings.is_bounded (standing s)))
parts_alike form.AssociationChoices d s n parts = naming_row (standing s) [] (all_of Read) row0
parts_alike form.Name d s n parts = naming_row (standing s) [] (all_of Read) row0
parts_alike form.OperatorName d s n parts = naming_row (standing s) [] (all_of Read) row0
parts_alike form.Arguments d s n parts =
    naming_row (standing s) (in_brackets (role_of d.table n.declaration) d s.known.env (number_or n.declaration) (meanings d.table parts))
    (brackets (role_of d.table n.declaration) parts) (brackets_row (role_of d.table n.declaration) d s.known.env (number_or n.declaration) parts)
parts_alike form.GenericMap d s n parts = generics_row (standing s) s.known.env d.table parts
parts_alike form.PortMap d s n parts = row1 standings.Associated
parts_alike form.EntityInstantiation d s n parts = row4 (standings.Evaluated false) (standings.Evaluated false) (standings.MappedTo (standings.generics_of d (meaning_at d 0 parts).declaration)) (standings.Evaluated false)
parts_alike form.PackageInstantiation d s n parts = row3 (standings.Evaluated false) (standings.Evaluated false) (standings.MappedTo (standings.generics_of d (meaning_at d 1 parts).declaration))
parts_alike form.FunctionInstantiation d s n parts = row4 (standings.Evaluated false) (standings.Evaluated false) (standings.Evaluated false) (standings.MappedTo (standings.generics_of d (meaning_at d 2 parts).declaration))
parts_alike f d s n parts = operands_row (is_operator_kind (kind f)) d s.known.env (followed d.table (number_or n.declaration)) (sort_of (standing s)) n parts
