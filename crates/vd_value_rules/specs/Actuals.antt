-- The associations of ports: what may stand for a port by its mode or view, what is missing, and what stands twice. (IEEE 1076, port map aspects;
-- association lists; mode views.)
-- A signal's name is here one whose indexes and bounds are known in elaboration; any other name of a signal is an expression.
use Rattle.std.specs.Prelude.{Bool, List, None, Option, Some, [], false, if◌then◌else◌, is_some, length, not, suc, true, zero, ℕ, ◌&&◌, ◌++◌, ◌==◌, ◌||◌, ◌∷◌}
use Rattle.std.specs.List.{list_all, list_any}
use Rattle.vd_bytes.specs.declared.answers.Refused.{Refused}
use Rattle.vd_bytes.specs.declared.places.Place.{Place}
use Rattle.vd_composites.specs.Subtypes.{Scalars, Subtype}
use Rattle.vd_meaning.specs.Building.{BothWays, Input, Mode, Output}
use Rattle.vd_meaning.specs.NodeFacets.{Actual, ByMode, ByView, ElementMode, Ports, ViewElement}
use Rattle.vd_meaning.specs.Hierarchies.{EntityText, entity_in, needed}
use Rattle.vd_meaning.specs.Instances.{actual_for, conversed}
use Rattle.vd_environments.specs.Environments.{Env, is_static}
use Rattle.vd_forest.specs.Forest.{Forest, more, nothing, parts_of, skipped, tree_count}
use Rattle.vd_forms.specs.declared.form.Form.{Form}
use Rattle.vd_meaning.specs.Brackets.{or_else}
use Rattle.vd_meaning.specs.Facets.{Meaning}
use Rattle.vd_meaning.specs.Names.{number_or}
use Rattle.vd_meaning.specs.Tables.{FunctionRole, MarkRole, Role, is_vector, role_of, same_type}
use Rattle.vd_resolved.specs.declared.node.Resolved.{Resolved}
use Rattle.vd_trees.specs.declared.revision.Revision.{Revision}
use Rattle.vd_trees.specs.declared.revision.Revision.TheVariants.{V1993, V2019}
use Rattle.vd_value_rules.specs.Bounds.{argument_of}
use Rattle.vd_value_rules.specs.Choices.{first_meaning, is_mark_role, place_or}
use Rattle.vd_value_rules.specs.Designs.{Design, Oriented, at_element, elements_of_view, is_listed, mode_of_port, port_of, straight}
use Rattle.vd_value_rules.specs.Judging.{refused_if}
use Rattle.vd_value_rules.specs.Knowledge.{meaning_at, parts_at}
use Rattle.vd_value_rules.specs.Names.{broken_as_value, may_be_driven, names_view_port}
use Rattle.vd_value_rules.specs.Reaching.{Reached, is_signal_name, nothing_reached, oriented, reached}
use Rattle.vd_value_rules.specs.Standings.{State, first_number, further_numbers}
use Rattle.vd_forms.specs.declared.form.Form.TheVariants as form

-- ---- formals: a whole port, or a conversion of one

pub data FormalSort : Type 0 where
  WholePort : (port : ℕ) → FormalSort
  ConvertedPort : (mark port : ℕ) → FormalSort
  NoFormal : FormalSort

abbrev pub is_single : Forest Resolved → Bool
is_single nothing = false
is_single (more n text place parts next) = tree_count next == 0

abbrev pub whole_port : Design → List ℕ → Option ℕ → Bool → Option ℕ
whole_port d ports None b = None
whole_port d ports (Some n) b = if b && is_listed n ports then Some n else None

-- the port that a name of one identifier means
abbrev pub port_named_by : Form → Design → List ℕ → Resolved → Forest Resolved → Option ℕ
port_named_by form.Name d ports n parts = whole_port d ports (or_else n.declaration (reached d parts).declaration) (is_single parts)
port_named_by _ d ports n parts = None

abbrev pub port_named : Design → List ℕ → Forest Resolved → Option ℕ
port_named d ports nothing = None
port_named d ports (more n text place parts next) = if tree_count next == 0 then port_named_by n.form d ports n parts else None

-- the last piece of a name, where brackets stand there: what is called or converts, and the elements in them
pub record LastBrackets : Type 0 where
  pub declaration : Option ℕ
  pub elements : Forest Resolved

abbrev pub brackets_of : Form → Resolved → Forest Resolved → Option LastBrackets
brackets_of form.Arguments n parts = Some (record { declaration = n.declaration; elements = parts })
brackets_of _ n parts = None

abbrev pub last_brackets : Forest Resolved → Option LastBrackets
last_brackets nothing = None
last_brackets (more n text place parts nothing) = brackets_of n.form n parts
last_brackets (more n text place parts next) = last_brackets next

abbrev pub converted_port : Design → List ℕ → Option LastBrackets → Option ℕ → FormalSort
converted_port d ports (Some b) (Some port) = if is_mark_role (role_of d.table b.declaration) then ConvertedPort (number_or b.declaration) port else NoFormal
converted_port d ports _ _ = NoFormal

abbrev pub port_in_brackets : Design → List ℕ → Option LastBrackets → Option ℕ
port_in_brackets d ports None = None
port_in_brackets d ports (Some b) = port_named d ports b.elements

abbrev pub whole_or : Option ℕ → FormalSort → FormalSort
whole_or (Some port) other = WholePort port
whole_or None other = other

abbrev pub formal_sort : Design → List ℕ → Forest Resolved → FormalSort
formal_sort d ports choices =
    whole_or (port_named d ports choices)
    (converted_port d ports (last_brackets (parts_of choices)) (port_in_brackets d ports (last_brackets (parts_of choices))))

-- ---- the associations of a port map

pub record PortAssociation : Type 0 where
  pub place : Place
  pub formal : FormalSort
  -- the actual, the first of these trees
  pub actual : Forest Resolved

-- one by its place, where the next port is this
abbrev pub positional_port : Option ℕ → FormalSort
positional_port port = whole_or port NoFormal

abbrev pub association_of : Form → Design → List ℕ → Option ℕ → Place → Forest Resolved → Forest Resolved → PortAssociation
association_of form.Association d ports next place whole parts =
    record { place = place; formal = formal_sort d ports (parts_at 0 parts); actual = skipped 1 parts }
association_of form.OthersAssociation d ports next place whole parts = record { place = place; formal = NoFormal; actual = parts }
association_of _ d ports next place whole parts = record { place = place; formal = positional_port next; actual = whole }

abbrev pub associations : Design → List ℕ → List ℕ → Forest Resolved → List PortAssociation
associations d ports left nothing = []
associations d ports left (more n text place parts next) =
    association_of n.form d ports (first_number left) place (more n text place parts nothing) parts ∷ associations d ports (further_numbers left) next

abbrev pub port_of_formal : FormalSort → Option ℕ
port_of_formal (WholePort port) = Some port
port_of_formal (ConvertedPort mark port) = Some port
port_of_formal NoFormal = None

-- ---- actuals

pub data ActualSort : Type 0 where
  NoActual : ActualSort
  -- the name of a signal, or a conversion of one to a mark: where the name stands, and what it names
  SignalNamed : (place : Place) (name : Reached) → ActualSort
  SignalConverted : (mark : ℕ) (place : Place) (name : Reached) → ActualSort
  -- a call with one argument, which is the name of a signal
  SignalPassed : ActualSort
  -- any other expression, and what it names where it is a name
  AnExpression : (place : Place) (name : Reached) → ActualSort

-- the name of a signal as such, whose indexes are static
abbrev pub named_signal_of : Form → Design → Env → Meaning → Place → Forest Resolved → Option ActualSort
named_signal_of form.Name d e m place parts =
    if is_signal_name d (reached d parts) && m.name.is_whole e then Some (SignalNamed place (reached d parts)) else None
named_signal_of _ d e m place parts = None

abbrev pub named_signal : Design → Env → Forest Resolved → Option ActualSort
named_signal d e nothing = None
named_signal d e (more n text place parts next) = named_signal_of n.form d e (first_meaning d (more n text place parts nothing)) place parts

-- the one argument, also where it stands behind `=>`
abbrev pub one_argument : Forest Resolved → Forest Resolved
one_argument nothing = nothing
one_argument (more n text place parts next) = if tree_count next == 0 then argument_of n.form (more n text place parts nothing) parts else nothing

abbrev pub around_signal : Role → ℕ → Option ActualSort → Option ActualSort
around_signal MarkRole mark (Some (SignalNamed place r)) = Some (SignalConverted mark place r)
around_signal FunctionRole f (Some (SignalNamed place r)) = Some SignalPassed
around_signal _ n signal = None

abbrev pub in_last_brackets : Design → Env → Option LastBrackets → Option ActualSort
in_last_brackets d e None = None
in_last_brackets d e (Some b) = around_signal (role_of d.table b.declaration) (number_or b.declaration) (named_signal d e (one_argument b.elements))

abbrev pub is_name_form : Form → Bool
is_name_form form.Name = true
is_name_form form.OperatorName = true
is_name_form _ = false

abbrev pub is_open_form : Form → Bool
is_open_form form.Open = true
is_open_form _ = false

abbrev pub sort_or : Option ActualSort → ActualSort → ActualSort
sort_or None other = other
sort_or (Some x) other = x

abbrev pub sort_of_name : Design → Env → Forest Resolved → Place → Forest Resolved → ActualSort
sort_of_name d e whole place parts =
    sort_or (named_signal d e whole) (sort_or (in_last_brackets d e (last_brackets parts)) (AnExpression place (reached d parts)))

abbrev pub actual_sort : Design → Env → Forest Resolved → ActualSort
actual_sort d e nothing = NoActual
actual_sort d e (more n text place parts next) =
    if is_open_form n.form then NoActual
    else (if is_name_form n.form then sort_of_name d e (more n text place parts nothing) place parts else AnExpression place nothing_reached)

-- ---- modes of ports and actuals that agree

-- the rules that a formal of the one mode breaks with an actual of the other
abbrev pub disagree : Mode → Mode → List ℕ
disagree Input Output = 401 ∷ []
disagree Output Input = 402 ∷ []
disagree BothWays Output = 401 ∷ []
disagree BothWays Input = 402 ∷ []
disagree _ _ = []

abbrev pub flat : List (List ℕ) → List ℕ
flat [] = []
flat (ns ∷ nss) = ns ++ flat nss

abbrev pub each_element_disagrees : (Oriented → Oriented → List ℕ) → Design → Oriented → Oriented → List ViewElement → List (List ℕ)
each_element_disagrees go d formal actual [] = []
each_element_disagrees go d formal actual (x ∷ xs) =
    go (at_element d formal x.name) (at_element d actual x.name) ∷ each_element_disagrees go d formal actual xs

-- one mode with another; or element by element of the view of either
abbrev pub disagree_by : (Oriented → Oriented → List ℕ) → Design → Oriented → Oriented → ElementMode → ElementMode → List ℕ
disagree_by go d formal actual (ByMode m) (ByMode a) = disagree (conversed formal.is_swapped m) (conversed actual.is_swapped a)
disagree_by go d formal actual (ByView view k) a = flat (each_element_disagrees go d formal actual (elements_of_view d view))
disagree_by go d formal actual (ByMode m) (ByView view k) = flat (each_element_disagrees go d formal actual (elements_of_view d view))

-- no view stands inside itself, so that there are at most so many inside one another
abbrev pub disagree_inside : ℕ → Design → Oriented → Oriented → List ℕ
disagree_inside zero d formal actual = []
disagree_inside (suc n) d formal actual = disagree_by (disagree_inside n d) d formal actual formal.mode actual.mode

abbrev pub all_disagree : Design → Oriented → Option Oriented → List ℕ
all_disagree d formal None = []
all_disagree d formal (Some actual) = disagree_inside (suc (suc (length d.units.views))) d formal actual

abbrev pub refused_for : Place → List ℕ → List Refused
refused_for place [] = []
refused_for place (rule ∷ rules) = record { place = place; rule = rule } ∷ refused_for place rules

abbrev pub signal_broken : Design → Oriented → Place → Reached → List Refused
signal_broken d formal place r = refused_for place (all_disagree d formal (oriented d r))

-- a port with a view is named by itself alone, and for a port with a view
abbrev pub is_part_of_view : Design → Reached → Bool
is_part_of_view d r = names_view_port d r && not (length r.fields == 0)

-- ---- expressions that aren't static: none in 1993, and in 2019 none where the subtype of the port names a generic that isn't scalar, with the
-- defaults of generics that are left out

abbrev pub is_scalar : Subtype → Bool
is_scalar (Scalars s) = true
is_scalar _ = false

abbrev pub names_composite : Env → List ℕ → List ℕ → Bool
names_composite e generics ns = list_any (λ n. is_listed n generics && not (is_scalar (e.denotes n).subtype)) ns

abbrev pub named_in_ports : Option Ports → List ℕ
named_in_ports None = []
named_in_ports (Some p) = p.named

-- what the subtype names, and the defaults of what is left out
abbrev pub named_with_defaults : Option EntityText → List Actual → List ℕ → List ℕ
named_with_defaults None actuals named = named
named_with_defaults (Some entity) actuals named = needed (λ k n. actual_for k n actuals) 0 entity.generics.objects entity.generics.defaults named

-- An instance: its entity, the actuals of its generics, and where it stands.
pub record PortMap : Type 0 where
  pub entity : ℕ
  pub generic_actuals : List Actual
  pub place : Place

abbrev pub has_composite_generic : Design → Env → PortMap → ℕ → Bool
has_composite_generic d e x port =
    names_composite e (d.table.declared x.entity).generics
    (named_with_defaults (entity_in None d.units.units (d.table.declared x.entity).name) x.generic_actuals (named_in_ports (port_of d port)))

abbrev pub is_refused_later : Revision → Bool → Bool
is_refused_later V2019 composite = composite
is_refused_later V1993 composite = true

abbrev pub expression_broken : Design → Env → PortMap → ℕ → PortAssociation → List Refused
expression_broken d e x port a =
    refused_if (not (is_static ((first_meaning d a.actual).known e)) && is_refused_later d.revision (has_composite_generic d e x port)) a.place 310

-- ---- what a port takes, by its mode

abbrev pub has_default_of : Option Ports → Bool
has_default_of None = false
has_default_of (Some p) = is_some p.objects.default

abbrev pub has_default : Design → ℕ → Bool
has_default d port = has_default_of (port_of d port)

abbrev pub against : PortAssociation → List Refused
against a = record { place = a.place; rule = 310 } ∷ []

-- `in`: a signal, a conversion of one to a vector type, an expression, or nothing where it has a default
abbrev pub input_broken : Design → Env → PortMap → ℕ → PortAssociation → ActualSort → List Refused
input_broken d e x port a NoActual = refused_if (not (has_default d port)) a.place 310
input_broken d e x port a (SignalNamed place r) =
    refused_if (names_view_port d r) place 308 ++ (if names_view_port d r then [] else signal_broken d (straight (ByMode Input)) place r)
input_broken d e x port a (SignalConverted mark place r) = refused_if (not (is_vector mark)) a.place 310
input_broken d e x port a SignalPassed = against a
input_broken d e x port a (AnExpression place r) = broken_as_value d place r ++ expression_broken d e x port a

-- `out` and `inout`: a signal or nothing, and in 1993 for `inout` also a conversion of a signal to a vector type
abbrev pub takes_conversion : Revision → Mode → Bool
takes_conversion V1993 BothWays = true
takes_conversion _ m = false

abbrev pub output_broken : Design → Mode → PortAssociation → ActualSort → List Refused
output_broken d m a NoActual = []
output_broken d m a (SignalNamed place r) =
    refused_if (names_view_port d r) place 308 ++ (if names_view_port d r then [] else signal_broken d (straight (ByMode m)) place r)
output_broken d m a (SignalConverted mark place r) =
    if takes_conversion d.revision m && is_vector mark then refused_if (not (may_be_driven d r)) place 402 else against a
output_broken d m a _ = against a

-- a view: a signal of its type
abbrev pub view_broken : Design → Oriented → PortAssociation → ActualSort → List Refused
view_broken d formal a (SignalNamed place r) = refused_if (is_part_of_view d r) place 308 ++ (if is_part_of_view d r then [] else signal_broken d formal place r)
view_broken d formal a _ = against a

abbrev pub actual_broken : Design → Env → PortMap → ℕ → PortAssociation → ElementMode → ActualSort → List Refused
actual_broken d e x port a (ByMode Input) actual = input_broken d e x port a actual
actual_broken d e x port a (ByMode m) actual = output_broken d m a actual
actual_broken d e x port a (ByView view k) actual = view_broken d (straight (ByView view k)) a actual

-- A conversion of a formal is to one of the vector types, of an `out` port or of an `inout` port that is itself of one of them, and has an actual.
abbrev pub is_of_vector_type : Design → ℕ → Bool
is_of_vector_type d port = is_vector (number_or (d.table.declared port).mark)

abbrev pub may_be_converted : Design → ℕ → ElementMode → Bool
may_be_converted d port (ByMode Output) = true
may_be_converted d port (ByMode BothWays) = is_of_vector_type d port
may_be_converted d port _ = false

abbrev pub is_open_actual : Forest Resolved → Bool
is_open_actual nothing = true
is_open_actual (more n text place parts next) = is_open_form n.form

abbrev pub formal_broken : Design → FormalSort → PortAssociation → List Refused
formal_broken d (WholePort port) a = []
formal_broken d (ConvertedPort mark port) a =
    refused_if (is_open_actual a.actual || not (is_vector mark && may_be_converted d port (mode_of_port d port))) a.place 310
formal_broken d NoFormal a = against a

abbrev pub for_port : (ℕ → List Refused) → Option ℕ → List Refused
for_port f None = []
for_port f (Some port) = f port

-- an actual that is refused has no type, and breaks nothing else
abbrev pub is_read : Forest Resolved → Bool
is_read nothing = true
is_read (more n text place parts next) = is_open_form n.form || is_some n.mark

abbrev pub if_read : Forest Resolved → List Refused → List Refused
if_read actual rs = if is_read actual then rs else []

abbrev pub association_broken : Design → Env → PortMap → PortAssociation → List Refused
association_broken d e x a =
    formal_broken d a.formal a
    ++ if_read a.actual (for_port (λ port. actual_broken d e x port a (mode_of_port d port) (actual_sort d e a.actual)) (port_of_formal a.formal))

-- ---- all associations, those that stand twice, and ports that are left out

abbrev pub is_associated : List PortAssociation → Option ℕ → Bool
is_associated before port = list_any (λ a. same_type (port_of_formal a.formal) port) before

abbrev pub all_associations_broken : Design → Env → PortMap → List PortAssociation → List PortAssociation → List Refused
all_associations_broken d e x before [] = []
all_associations_broken d e x before (a ∷ as') =
    refused_if (is_associated before (port_of_formal a.formal)) a.place 310 ++ association_broken d e x a
    ++ all_associations_broken d e x (before ++ a ∷ []) as'

-- a port with a view has an actual, and one of mode `in` an actual or a default
abbrev pub needs_actual : Design → ℕ → ElementMode → Bool
needs_actual d port (ByMode Input) = not (has_default d port)
needs_actual d port (ByMode m) = false
needs_actual d port (ByView view k) = true

abbrev pub is_missing : Design → List PortAssociation → ℕ → Bool
is_missing d as' port = needs_actual d port (mode_of_port d port) && not (is_associated as' (Some port))

-- each element is for a port, and none stands behind a name. Else it isn't known which one is meant
abbrev pub is_association_form : Form → Bool
is_association_form form.Association = true
is_association_form _ = false

abbrev pub are_in_order : Bool → Forest Resolved → Bool
are_in_order named nothing = true
are_in_order named (more n text place parts next) =
    if is_association_form n.form then are_in_order true next else not named && are_in_order false next

abbrev pub are_known : List PortAssociation → Forest Resolved → Bool
are_known as' elements = list_all (λ a. is_some (port_of_formal a.formal)) as' && are_in_order false elements

abbrev pub port_map_broken : Design → Env → PortMap → List ℕ → Forest Resolved → List Refused
port_map_broken d e x ports elements =
    let as' = associations d ports ports elements in
    all_associations_broken d e x [] as' ++ refused_if (are_known as' elements && list_any (is_missing d as') ports) x.place 310

-- ---- instances

abbrev pub generic_actuals_of : Design → Forest Resolved → List Actual
generic_actuals_of d parts = (Rattle.vd_meaning.specs.NodeFacets.nth 2 (Rattle.vd_meaning.specs.Parts.parts d.table parts)).actuals

abbrev pub instance_broken : Form → Design → State → Place → Forest Resolved → List Refused
instance_broken form.EntityInstantiation d s place parts =
    let entity = number_or (meaning_at d 0 parts).declaration in
    port_map_broken d s.known.env (record { entity = entity; generic_actuals = generic_actuals_of d parts; place = place_or s.label place })
    (d.table.declared entity).parameters (parts_at 3 parts)
instance_broken _ d s place parts = []

-- 308, 310, 401 and 402 of port maps
abbrev pub broken_instance : Design → State → Resolved → Place → Forest Resolved → List Refused
broken_instance d s n place parts = instance_broken n.form d s place parts
