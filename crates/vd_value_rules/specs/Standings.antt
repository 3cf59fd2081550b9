-- What is known at a place of a tree: the declarations in front of it, what its node is to the node above it, and what stands round it.
use Rattle.std.specs.Prelude.{Bool, List, None, Option, Some, [], false, if◌then◌else◌, not, true, ℕ, ◌&&◌, ◌++◌, ◌||◌, ◌∷◌}
use Rattle.vd_bytes.specs.declared.places.Place.{Place}
use Rattle.vd_declarations.specs.declared.classes.Class.{Class}
use Rattle.vd_meaning.specs.Instances.{known_early}
use Rattle.vd_environments.specs.Environments.{Env, Indicated, Static, inside, never}
use Rattle.vd_forest.specs.Forest.{Forest, more, nothing}
use Rattle.vd_forms.specs.declared.form.Form.{Form}
use Rattle.vd_meaning.specs.Brackets.{is_positional}
use Rattle.vd_meaning.specs.Declarations.{has_bounds}
use Rattle.vd_meaning.specs.Facets.{Meaning}
use Rattle.vd_meaning.specs.Kinds.{Kind, Operator, kind}
use Rattle.vd_meaning.specs.Meanings.{formal_named, made, meanings}
use Rattle.vd_meaning.specs.Names.{number_or}
use Rattle.vd_meaning.specs.Tables.{FunctionRole, Role, followed, is_predefined, role_of}
use Rattle.vd_resolved.specs.declared.node.Resolved.{Resolved}
use Rattle.vd_value_rules.specs.Declaring.{declaring, unit_declared_by, units_declared}
use Rattle.vd_value_rules.specs.Designs.{Design, class_of}
use Rattle.vd_value_rules.specs.Knowledge.{Known, at_mark, both_changed, indicated, later_objects, meaning_at, nothing_known, parts_at}
use Rattle.vd_declarations.specs.declared.classes.Class.TheVariants as class
use Rattle.vd_forms.specs.declared.form.Form.TheVariants as form

pub data Standing : Type 0 where
  -- an expression, whose place gives bounds for an aggregate with `others` or doesn't
  Evaluated : (bounded : Bool) → Standing
  -- the same, in text that is written out again elsewhere
  Copied : (bounded : Bool) → Standing
  -- an element of a call or of a generic map, in front of whose `=>` a parameter or generic is named
  Passed : (bounded : Bool) → Standing
  -- a generic map for these generics
  MappedTo : (generics : List ℕ) → Standing
  -- an element of a port map, and its actual
  Associated : Standing
  -- what is named in front of `=>` in a call or map
  Formal : Standing
  -- the target of a signal assignment or of a variable assignment
  Assigned : (signal : Bool) → Standing

pub record State : Type 0 where
  pub known : Known
  -- of this tree and those behind it; the last one stands for all that follow
  pub coming : List Standing
  -- the label in front of a statement
  pub label : Option Place
  -- in a function, the variables that it declares
  pub locals : Option (List ℕ)
  -- inside a package or a function with generics, whose text is written out at its instances
  pub is_copied : Bool

abbrev pub beginning : State
beginning = record { known = nothing_known; coming = []; label = None; locals = None; is_copied = false }

abbrev pub first_standing : List Standing → Standing
first_standing [] = Evaluated false
first_standing (x ∷ xs) = x

abbrev pub further_standings : List Standing → List Standing
further_standings [] = []
further_standings (x ∷ []) = x ∷ []
further_standings (x ∷ y ∷ xs) = y ∷ xs

abbrev pub standing : State → Standing
standing s = first_standing s.coming

-- whether its place gives bounds
abbrev pub is_bounded : Standing → Bool
is_bounded (Evaluated b) = b
is_bounded (Copied b) = b
is_bounded (Passed b) = b
is_bounded Associated = true
is_bounded _ = false

abbrev pub is_copied_itself : Standing → Bool
is_copied_itself (Copied b) = true
is_copied_itself _ = false

abbrev pub is_copied_here : State → Bool
is_copied_here s = s.is_copied || is_copied_itself (standing s)

-- ---- whether places give bounds

-- a subtype that is no array of any bounds
abbrev pub is_bounded_indicated : Indicated → Bool
is_bounded_indicated i = has_bounds i.subtype

abbrev pub is_bounded_object : Env → ℕ → Bool
is_bounded_object e n = has_bounds (e.denotes n).subtype

-- a parameter of a function that is written; predefined operators take arrays of any bounds
abbrev pub is_bounded_parameter : Design → Env → ℕ → ℕ → Bool
is_bounded_parameter d e f p = not (is_predefined d.table f) && is_bounded_object e p

abbrev pub is_bounded_formal : (ℕ → Bool) → Option ℕ → Bool
is_bounded_formal is None = false
is_bounded_formal is (Some n) = is n

-- the formal of an element: the one that it names, or the next one in order
abbrev pub first_number : List ℕ → Option ℕ
first_number [] = None
first_number (n ∷ ns) = Some n

abbrev pub further_numbers : List ℕ → List ℕ
further_numbers [] = []
further_numbers (n ∷ ns) = ns

abbrev pub formal_of_element : Meaning → List ℕ → Option ℕ
formal_of_element m ns = if is_positional m.association then first_number ns else formal_named m.association m.choices

abbrev pub passed : (ℕ → Bool) → List ℕ → List Meaning → List Standing
passed is ns [] = []
passed is ns (m ∷ ms) = Passed (is_bounded_formal is (formal_of_element m ns)) ∷ passed is (further_numbers ns) ms

abbrev pub passed_to_function : Design → Env → ℕ → List Meaning → List Standing
passed_to_function d e f ms = passed (is_bounded_parameter d e f) (d.table.declared f).parameters ms

abbrev pub is_operator_kind : Kind → Bool
is_operator_kind Operator = true
is_operator_kind _ = false

abbrev pub in_brackets : Role → Design → Env → ℕ → List Meaning → List Standing
in_brackets FunctionRole d e f ms = passed_to_function d e (followed d.table f) ms
in_brackets _ d e f ms = Evaluated false ∷ []

-- one element without choices stands where its brackets stand
abbrev pub is_one_element : List Meaning → Bool
is_one_element (m ∷ []) = is_positional m.association
is_one_element _ = false

-- ---- what the parts of a node are to it

abbrev pub parts_of_association : Standing → List Standing
parts_of_association Associated = Formal ∷ Associated ∷ []
parts_of_association (Passed b) = Formal ∷ Evaluated b ∷ []
parts_of_association s = Evaluated false ∷ Evaluated (is_bounded s) ∷ []

abbrev pub unless_formal : Standing → List Standing → List Standing
unless_formal Formal xs = Formal ∷ []
unless_formal s xs = xs

abbrev pub parts_of_generic_map : Standing → Env → List Meaning → List Standing
parts_of_generic_map (MappedTo ns) e ms = passed (is_bounded_object e) ns ms
parts_of_generic_map s e ms = Passed false ∷ []

abbrev pub none_but : List Standing → List Standing
none_but xs = Evaluated false ∷ xs

abbrev pub generics_of : Design → Option ℕ → List ℕ
generics_of d None = []
generics_of d (Some n) = (d.table.declared n).generics

abbrev pub standings : Form → Design → State → Resolved → Forest Resolved → List Standing
-- declarations: initial values and defaults
standings form.ConstantDeclaration d s n parts = none_but (none_but (Evaluated (is_bounded_indicated (indicated d false s.known (parts_at 1 parts))) ∷ []))
standings form.SignalDeclaration d s n parts = Evaluated true ∷ []
standings form.VariableDeclaration d s n parts = Evaluated true ∷ []
standings form.PortDeclaration d s n parts = none_but (none_but (none_but (Copied false ∷ Evaluated true ∷ [])))
standings form.GenericConstant d s n parts =
    none_but (none_but (none_but (none_but (Copied (is_bounded_indicated (indicated d false s.known (parts_at 3 parts))) ∷ []))))
-- assignments and returns
standings form.SignalAssignment d s n parts = Assigned true ∷ Evaluated false ∷ Evaluated true ∷ []
standings form.ConcurrentAssignment d s n parts = Assigned true ∷ Evaluated false ∷ Evaluated true ∷ []
standings form.VariableAssignment d s n parts = Assigned false ∷ Evaluated true ∷ []
standings form.SelectedSignalAssignment d s n parts = none_but (none_but (Assigned true ∷ Evaluated false ∷ Evaluated true ∷ []))
standings form.SelectedVariableAssignment d s n parts = none_but (none_but (Assigned false ∷ Evaluated true ∷ []))
standings form.ReturnStatement d s n parts = Evaluated (has_bounds s.known.env.result) ∷ []
standings form.ConditionalWaveform d s n parts = standing s ∷ Evaluated false ∷ standing s ∷ []
standings form.ConditionalValue d s n parts = standing s ∷ Evaluated false ∷ standing s ∷ []
standings form.ConditionalReturn d s n parts = standing s ∷ Evaluated false ∷ standing s ∷ []
standings form.GuardedWaveform d s n parts = standing s ∷ Evaluated false ∷ []
standings form.GuardedValue d s n parts = standing s ∷ Evaluated false ∷ []
standings form.DelayedWaveform d s n parts = standing s ∷ Evaluated false ∷ []
standings form.SelectedWaveform d s n parts = standing s ∷ Evaluated false ∷ []
standings form.SelectedValue d s n parts = standing s ∷ Evaluated false ∷ []
-- aggregates, qualified expressions, calls
standings form.Aggregate d s n parts = Evaluated (if is_one_element (meanings d.table parts) then is_bounded (standing s) else true) ∷ []
standings form.Qualification d s n parts =
    Evaluated (if is_one_element (meanings d.table parts) then is_bounded_object s.known.env (number_or n.declaration) else true) ∷ []
standings form.Association d s n parts = parts_of_association (standing s)
standings form.OthersAssociation d s n parts = Evaluated (is_bounded (standing s)) ∷ []
standings form.AssociationChoices d s n parts = unless_formal (standing s) []
standings form.Name d s n parts = unless_formal (standing s) []
standings form.OperatorName d s n parts = unless_formal (standing s) []
standings form.Arguments d s n parts =
    unless_formal (standing s) (in_brackets (role_of d.table n.declaration) d s.known.env (number_or n.declaration) (meanings d.table parts))
-- instances
standings form.GenericMap d s n parts = parts_of_generic_map (standing s) s.known.env (meanings d.table parts)
standings form.PortMap d s n parts = Associated ∷ []
standings form.EntityInstantiation d s n parts = none_but (none_but (MappedTo (generics_of d (meaning_at d 0 parts).declaration) ∷ Evaluated false ∷ []))
standings form.PackageInstantiation d s n parts = none_but (none_but (MappedTo (generics_of d (meaning_at d 1 parts).declaration) ∷ []))
standings form.FunctionInstantiation d s n parts = none_but (none_but (none_but (MappedTo (generics_of d (meaning_at d 2 parts).declaration) ∷ [])))
-- operators, of which some are functions that are written
standings f d s n parts =
    if is_operator_kind (kind f) then passed_to_function d s.known.env (followed d.table (number_or n.declaration)) (meanings d.table parts) else []

-- ---- what is known inside a node

abbrev pub known_inside : Known → Known
known_inside k = both_changed inside k

abbrev pub returning : Option ℕ → Known → Known
returning mark k = both_changed (λ e. record e { result = (at_mark mark k.env).subtype }) k

-- the parameter of a loop or a generate has the type of its range
abbrev pub with_parameter : Design → Resolved → Forest Resolved → Static → Known → Known
with_parameter d n parts static k =
    later_objects (number_or (made n (meaning_at d 0 parts)) ∷ [])
    (record { own = at_mark (meaning_at d 1 parts).mark k.env; choosing = at_mark (meaning_at d 1 parts).mark k.choosing }) static k

abbrev pub known_down : Form → Design → Resolved → Forest Resolved → Known → Known
known_down form.ProcessStatement d n parts k = known_inside k
known_down form.FunctionBody d n parts k = returning (meaning_at d 5 parts).declaration (known_inside k)
known_down form.ForLoop d n parts k = with_parameter d n parts never k
known_down form.ForGenerate d n parts k = with_parameter d n parts known_early k
known_down _ d n parts k = k

abbrev pub label_down : Form → Place → Option Place
label_down form.LabelledStatement place = Some place
label_down form.LabelledConcurrent place = Some place
label_down _ place = None

abbrev pub variables_of : Form → Design → Forest Resolved → List ℕ
variables_of form.VariableDeclaration d parts = (meaning_at d 0 parts).numbers
variables_of _ d parts = []

abbrev pub variables_in : Design → Forest Resolved → List ℕ
variables_in d nothing = []
variables_in d (more n text place parts next) = variables_of n.form d parts ++ variables_in d next

abbrev pub locals_down : Form → Design → Forest Resolved → Option (List ℕ) → Option (List ℕ)
locals_down form.FunctionBody d parts locals = Some (variables_in d (parts_at 6 parts))
locals_down form.FunctionDeclaration d parts locals = Some []
locals_down form.GenericFunction d parts locals = Some []
locals_down _ d parts locals = locals

abbrev pub is_generic_package : Class → Bool
is_generic_package class.UninstantiatedPackage = true
is_generic_package _ = false

-- a package or a function with generics, or the body of such a package
abbrev pub is_copied_down : Form → Design → Resolved → Forest Resolved → Bool
is_copied_down form.PackageDeclaration d n parts = (meaning_at d 1 parts).is_present
is_copied_down form.PackageBody d n parts = is_generic_package (class_of d (number_or (made n (meaning_at d 0 parts))))
is_copied_down form.FunctionDeclaration d n parts = (meaning_at d 2 parts).is_present
is_copied_down form.FunctionBody d n parts = (meaning_at d 2 parts).is_present
is_copied_down _ d n parts = false

abbrev pub state_down : Design → State → Resolved → List ℕ → Place → Forest Resolved → State
state_down d s n text place parts =
    record {
      known = known_down n.form d n parts s.known;
      coming = standings n.form d s n parts;
      label = label_down n.form place;
      locals = locals_down n.form d parts s.locals;
      is_copied = is_copied_here s || is_copied_down n.form d n parts;
    }

-- ---- and behind it

abbrev pub state_along : Design → State → Resolved → List ℕ → Place → Forest Resolved → State
state_along d s n text place parts =
    record s {
      known = unit_declared_by (declaring n.form) d n parts (units_declared d parts s.known) s.known;
      coming = further_standings s.coming;
    }
