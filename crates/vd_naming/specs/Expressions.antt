-- Largest expressions: each is resolved by what its place wants, or refused. (IEEE 1076, the context of overload resolution)
use Rattle.std.specs.Prelude.{ℕ, Bool, true, false, ◌&&◌, ◌||◌, ◌==◌, List, [], ◌∷◌, map, Option, Some, None, if◌then◌else◌}
use Rattle.vd_bytes.specs.declared.answers.Refused.{Refused}
use Rattle.vd_bytes.specs.declared.places.Place.{Place}
use Rattle.vd_forest.specs.Forest.{Forest, nothing, more, joined, parts_of, next_of}
use Rattle.vd_forms.specs.declared.form.Form.{Form}
use Rattle.vd_forms.specs.declared.form.Form.TheVariants as form
use Rattle.vd_predefined.specs.declared.numbers.TheConstants.{BOOLEAN, BIT, STD_ULOGIC}
use Rattle.vd_readings.specs.Readings.{readings_in}
use Rattle.vd_refusals.specs.Refusals.{first_refusal}
use Rattle.vd_resolved.specs.declared.node.Resolved.{Resolved}
use Rattle.vd_rewriting.specs.Forms.{with_forms}
use Rattle.vd_states.specs.declared.states.State.{State}
use Rattle.vd_states.specs.declared.states.State.TheVariants as state
use Rattle.vd_states.specs.declared.states.Want.TheVariants as want
use Rattle.vd_visible.specs.Sights.{Sight, class_of}
use Rattle.vd_visible.specs.Types.{all_types, is_discrete, index_of, element_of, type_meant}
use Rattle.vd_overloads.specs.Environment.{rules_at, scene_at}
use Rattle.vd_overloads.specs.Interpretations.{alone, first_place, interpretations, refusal}
use Rattle.vd_overloads.specs.declared.wanted.Wanted.{Wanted}
use Rattle.vd_overloads.specs.declared.wanted.Wanted.TheVariants as wanted
use Rattle.vd_name_rows.specs.declared.steps.Want as step
use Rattle.vd_name_rows.specs.declared.steps.Want.TheVariants as places
use Rattle.vd_name_rows.specs.Designs.{At, Design, Outcome, standpoint, sight, gives}
use Rattle.vd_name_rows.specs.Refusals.{lesser, broken}
use Rattle.vd_naming.specs.Pieces.{refused_pieces}
use Rattle.vd_naming.specs.Edges.{edge_of_no_signal}

-- ---- nodes

abbrev pub resolved : Form → Option ℕ → Option ℕ → Resolved
resolved f declaration mark = record { form = f; declaration = declaration; mark = mark; position = 0 }

-- a tree in which nothing is named
abbrev pub unresolved : Forest Form → Forest Resolved
unresolved tree = with_forms (λ f. resolved f None None) tree

-- ---- what a tree comes to of which some readings are given: the only one, or nothing is named in it and it is refused

abbrev pub only_reading : Forest Form → List (Forest Resolved) → Forest Resolved
only_reading tree [] = unresolved tree
only_reading tree (reading ∷ []) = reading
only_reading tree (reading ∷ other ∷ readings) = unresolved tree

abbrev pub refused_unless_one : Option Refused → List (Forest Resolved) → Option Refused
refused_unless_one refused [] = refused
refused_unless_one refused (reading ∷ []) = None
refused_unless_one refused (reading ∷ other ∷ readings) = refused

abbrev pub mark_of : Forest Resolved → Option ℕ
mark_of nothing = None
mark_of (more node text place parts next) = node.mark

-- ---- an expression of which something is wanted

abbrev pub refusal_of : At → Design → Wanted → Forest Form → List (Forest Resolved) → Option Refused
refusal_of at d w tree all =
    lesser (lesser (refused_pieces (sight at d) d at.region tree) (edge_of_no_signal d.scopes (only_reading tree all)))
    (refused_unless_one (Some (refusal ((scene_at (standpoint at d)).refused w tree) ((scene_at (standpoint at d)).unknown tree) (first_place tree) all)) all)

abbrev pub read_as : At → Design → Wanted → Forest Form → Outcome
read_as at d w tree =
    let all = interpretations (rules_at (standpoint at d)) (scene_at (standpoint at d)) w (alone tree) in
    gives at d (only_reading tree all) (refusal_of at d w tree all)

-- ---- expressions that have to be marks: the index of an array type of any bounds, the mark of a range, and the actual of a type

abbrev pub mark_states : Sight → List State
mark_states s = map (λ t. state.Only (want.Mark t)) (all_types s)

abbrev pub mark_readings : At → Design → Forest Form → List (Forest Resolved)
mark_readings at d tree = readings_in (rules_at (standpoint at d)) (alone tree) (mark_states (sight at d))

-- what is refused of a name, or 307 where the whole is no mark
abbrev pub no_mark : Option Refused → Place → Option Refused
no_mark None place = broken 307 place
no_mark (Some r) place = Some r

abbrev pub refusal_of_mark : At → Design → Forest Form → List (Forest Resolved) → Option Refused
refusal_of_mark at d tree all =
    lesser (refused_pieces (sight at d) d at.region tree)
    (refused_unless_one (no_mark (first_refusal (sight at d) (want.Mark BOOLEAN) tree) (first_place tree)) all)

abbrev pub read_as_mark : At → Design → Forest Form → Outcome
read_as_mark at d tree = let all = mark_readings at d tree in
    gives at d (only_reading tree all) (refusal_of_mark at d tree all)

-- the declaration that such a name means, at its last piece, and its type
abbrev pub last_declaration : Forest Resolved → Option ℕ
last_declaration nothing = None
last_declaration (more node text place parts nothing) = node.declaration
last_declaration (more node text place parts (more node' text' place' parts' next)) = last_declaration (more node' text' place' parts' next)

abbrev pub mark_declared : Forest Resolved → Option ℕ
mark_declared tree = last_declaration (parts_of tree)

abbrev pub type_declared : Sight → Option ℕ → Option ℕ
type_declared s None = None
type_declared s (Some k) = type_meant s k

-- ---- a mark with a range: the mark, and then each bound, by itself

abbrev pub discrete_class : Sight → ℕ → Bool
discrete_class s t = is_discrete (class_of s t)

abbrev pub fits_wanted : Wanted → Sight → ℕ → Bool
fits_wanted (wanted.DiscreteRange u) s t = discrete_class s t && (t == u)
fits_wanted (wanted.Choice u) s t = discrete_class s t && (t == u)
fits_wanted wanted.AnyDiscreteRange s t = discrete_class s t
fits_wanted _ s t = false

abbrev pub two_trees : Outcome → Outcome → Forest Resolved
two_trees o p = joined o.tree p.tree

abbrev pub with_node : Resolved → Place → Outcome → Outcome → Outcome
with_node node place o p = record o { tree = more node [] place (two_trees o p) nothing; first = lesser o.first p.first }

abbrev pub bounds_as : At → Design → ℕ → Forest Form → Outcome
bounds_as at d t nothing = gives at d nothing None
bounds_as at d t (more f text place parts next) =
    with_node (resolved f None (Some t)) place (read_as at d (wanted.OfType t) (alone parts)) (read_as at d (wanted.OfType t) (alone (next_of parts)))

abbrev pub bounds_if : Bool → At → Design → ℕ → Place → Forest Form → Outcome
bounds_if true at d t place bounds = bounds_as at d t bounds
bounds_if false at d t place bounds = gives at d (unresolved bounds) (broken 305 place)

abbrev pub bounds_of_type : Option ℕ → Wanted → At → Design → Place → Forest Form → Outcome
bounds_of_type None w at d place bounds = gives at d (unresolved bounds) None
bounds_of_type (Some t) w at d place bounds = bounds_if (fits_wanted w (sight at d) t) at d t place bounds

abbrev pub narrowed_by : Option ℕ → Wanted → At → Design → Place → Forest Form → Outcome → Outcome
narrowed_by t w at d place bounds o = with_node (resolved form.DiscreteSubtype None t) place o (bounds_of_type t w at d place bounds)

abbrev pub narrowed : Wanted → At → Design → Place → Forest Form → Outcome
narrowed w at d place parts =
    let o = read_as_mark at d (alone parts) in
    narrowed_by (type_declared (sight at d) (mark_declared o.tree)) w at d place (next_of parts) o

-- the first name of a tree that is refused whatever is wanted of it
abbrev pub refused_names : At → Design → Forest Form → Option Refused
refused_names at d tree = lesser (refused_pieces (sight at d) d at.region tree) (first_refusal (sight at d) (want.Value BOOLEAN) tree)

-- else a rule that the whole of it breaks
abbrev pub or_broken : Option Refused → ℕ → Place → Option Refused
or_broken None rule place = broken rule place
or_broken (Some r) rule place = Some r

abbrev pub names_or : ℕ → At → Design → Place → Forest Form → Option Refused
names_or rule at d place tree = or_broken (refused_names at d tree) rule place

-- Where nothing is known of what is wanted, since something before it is refused or a `return` stands outside a function, only names are refused.
abbrev pub where_known : Option Wanted → At → Design → Forest Form → Outcome
where_known None at d tree = gives at d (unresolved tree) (refused_names at d tree)
where_known (Some w) at d (more form.DiscreteSubtype text place parts next) = narrowed w at d place parts
where_known (Some w) at d tree = read_as at d w tree

-- ---- what a place wants

abbrev pub with_mark : (ℕ → Wanted) → Option ℕ → Option Wanted
with_mark make None = None
with_mark make (Some t) = Some (make t)

-- the type of the indexes of the type at hand
abbrev pub index_type : Sight → Option ℕ → Option ℕ
index_type s None = None
index_type s (Some t) = index_of (class_of s t)

abbrev pub wanted_at : step.Want → At → Design → Option Wanted
wanted_at places.AtHand at d = with_mark wanted.OfType at.mark
wanted_at (places.Given t) at d = Some (wanted.OfType t)
wanted_at places.Condition at d = Some wanted.Condition
wanted_at places.Free at d = Some wanted.Free
wanted_at places.Choice at d = with_mark wanted.Choice at.selector
wanted_at places.Range at d = with_mark wanted.Range at.mark
wanted_at places.Index at d = with_mark wanted.DiscreteRange (index_type (sight at d) at.mark)
wanted_at places.AnyRange at d = Some wanted.AnyDiscreteRange

-- a part that may be missing
abbrev pub is_absent : Forest Form → Bool
is_absent nothing = true
is_absent (more form.Absent text place parts next) = true
is_absent (more _ text place parts next) = false

abbrev pub expression : step.Want → At → Design → Forest Form → Outcome
expression w at d tree = if is_absent tree then gives at d (unresolved tree) None else where_known (wanted_at w at d) at d tree

-- ---- targets and selectors: expressions of any type

-- what is behind it has its type at hand
abbrev pub at_hand : Outcome → Outcome
at_hand o = record o { at = record o.at { mark = mark_of o.tree } }

abbrev pub target : At → Design → Forest Form → Outcome
target at d tree = at_hand (read_as at d wanted.Free tree)

-- the types that a selector can have: discrete types, and arrays of these; where choices are matched by `?=`, BIT, STD_ULOGIC, and arrays of
-- these
abbrev pub is_logical : ℕ → Bool
is_logical t = (t == BIT) || (t == STD_ULOGIC)

abbrev pub selects : Bool → Sight → ℕ → Bool
selects true s t = is_logical t
selects false s t = is_discrete (class_of s t)

abbrev pub selects_element : Bool → Sight → Option ℕ → Bool
selects_element matching s None = false
selects_element matching s (Some t) = selects matching s t

abbrev pub can_select : Bool → Sight → Option ℕ → Bool
can_select matching s None = true
can_select matching s (Some t) = selects matching s t || selects_element matching s (element_of (class_of s t))

-- an expression of one type that can't select has no interpretation as a selector
abbrev pub not_selecting : Bool → Sight → Forest Form → Forest Resolved → Option Refused
not_selecting matching s tree reading = if can_select matching s (mark_of reading) then None else broken 305 (first_place tree)

abbrev pub as_selector : Sight → Forest Form → Outcome → Outcome
as_selector s tree o =
    record o { at = record o.at { selector = mark_of o.tree }; first = lesser o.first (not_selecting o.at.is_matching s tree o.tree) }

abbrev pub selector : At → Design → Forest Form → Outcome
selector at d tree = as_selector (sight at d) tree (read_as at d wanted.Free tree)
