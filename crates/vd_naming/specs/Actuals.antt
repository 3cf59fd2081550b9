-- Actuals of generics: marks for types, functions for functions, expressions for constants. (IEEE 1076-2019, interface declarations; generic map aspects)
use Rattle.std.specs.Prelude.{ℕ, ◌==◌, Bool, true, false, ◌&&◌, ◌||◌, not, List, [], ◌∷◌, map, Option, Some, None, if◌then◌else◌}
use Rattle.std.specs.List.{filter, flat_map, list_all}
use Rattle.vd_bytes.specs.declared.answers.Refused.{Refused}
use Rattle.vd_bytes.specs.declared.places.Place.{Place}
use Rattle.vd_declarations.specs.declared.classes.Class.{Class}
use Rattle.vd_declarations.specs.declared.classes.Class.TheVariants as class
use Rattle.vd_declarations.specs.declared.declarations.Declaration.{Declaration}
use Rattle.vd_forest.specs.Forest.{Forest, nothing, more, next_of}
use Rattle.vd_forms.specs.declared.form.Form.{Form}
use Rattle.vd_forms.specs.declared.form.Form.TheVariants as form
use Rattle.vd_predefined.specs.declared.numbers.TheConstants.{BOOLEAN}
use Rattle.vd_overloads.specs.Interpretations.{first_place}
use Rattle.vd_overloads.specs.declared.wanted.Wanted.TheVariants as wanted
use Rattle.vd_refusals.specs.Refusals.{first_refusal}
use Rattle.vd_refusals.specs.Seen.{path_seen, is_mark_seen}
use Rattle.vd_regions.specs.Homographs.{same_types}
use Rattle.vd_regions.specs.Scopes.{declaration_at}
use Rattle.vd_resolved.specs.declared.node.Resolved.{Resolved}
use Rattle.vd_states.specs.declared.states.Want.TheVariants as want
use Rattle.vd_visible.specs.declared.roles.Role.{Role}
use Rattle.vd_visible.specs.declared.roles.Role.TheVariants as role
use Rattle.vd_visible.specs.Kinds.{role_of}
use Rattle.vd_visible.specs.Sights.{Sight, class_of, mark_of, parameters_of}
use Rattle.vd_ways.specs.Ways.{symbol_name, selection_name}
use Rattle.vd_name_rows.specs.declared.at.Actual.{Actual}
use Rattle.vd_name_rows.specs.Designs.{At, Design, Outcome, sight, gives}
use Rattle.vd_name_rows.specs.Noting.{has_body}
use Rattle.vd_name_rows.specs.Refusals.{lesser, broken, broken_if}
use Rattle.vd_naming.specs.Edges.{is_edge_function}
use Rattle.vd_naming.specs.Pieces.{refused_pieces}
use Rattle.vd_naming.specs.Expressions.{resolved, unresolved, only_reading, refused_unless_one, mark_readings, mark_declared, type_declared, read_as_mark, where_known, with_mark}
use Rattle.vd_naming.specs.Selected.{Meant, Means, Breaks, some_or, meant_behind}
use Rattle.vd_naming.specs.Paths.{one_that, is_some}
use Rattle.vd_naming.specs.Associations.{Element, is_among_numbers}

-- ---- generics and their actuals, as pairs

abbrev pub actual_of : ℕ → List Actual → Option ℕ
actual_of g [] = None
actual_of g (a ∷ others) = if a.generic == g then Some a.actual else actual_of g others

abbrev pub paired : ℕ → Option ℕ → List Actual
paired g None = []
paired g (Some k) = record { generic = g; actual = k } ∷ []

-- What is known of the generics of an instance: the place, the generics, and the actuals of those that are types.
pub record Known : Type 0 where
  pub sight : Sight
  pub generics : List ℕ
  pub types : List Actual

-- a type in the instance: that of its actual where it is a generic, if that is known
abbrev pub type_in : Known → ℕ → Option ℕ
type_in k t = if is_among_numbers k.generics t then type_declared k.sight (actual_of t k.types) else Some t

abbrev pub mark_in : Known → Option ℕ → Option ℕ
mark_in k None = None
mark_in k (Some t) = type_in k t

-- ---- profiles: the type of the result, and those of the parameters

abbrev pub profile : Sight → ℕ → List (Option ℕ)
profile s f = mark_of s f ∷ map (mark_of s) (parameters_of s f)

abbrev pub profile_in : Known → ℕ → List (Option ℕ)
profile_in k g = map (mark_in k) (profile k.sight g)

abbrev pub is_function : Role → Bool
is_function role.Function = true
is_function _ = false

abbrev pub functions_among : Sight → List ℕ → List ℕ
functions_among s ks = filter (λ k. is_function (role_of (class_of s k))) ks

abbrev pub of_profile : Sight → List (Option ℕ) → List ℕ → List ℕ
of_profile s wanted ks = filter (λ k. same_types wanted (profile s k)) (functions_among s ks)

abbrev pub only_one : List ℕ → Option ℕ
only_one (k ∷ []) = Some k
only_one _ = None

-- the only function of a profile among these, where all of its types are known
abbrev pub function_among : Sight → List (Option ℕ) → List ℕ → Option ℕ
function_among s wanted ks = if list_all is_some wanted then only_one (of_profile s wanted ks) else None

-- ---- the name of a function, or an operator symbol

abbrev pub are_selections : Forest Form → Bool
are_selections nothing = true
are_selections (more form.Selection text place parts next) = are_selections next
are_selections (more _ text place parts next) = false

abbrev pub head_meant : Sight → Forest Form → Meant
head_meant s nothing = Breaks 303
head_meant s (more f text place parts next) = some_or 303 (s.visible text)

abbrev pub behind_meant : Sight → Meant → Forest Form → Meant
behind_meant s m nothing = m
behind_meant s m (more f text place parts next) = behind_meant s (meant_behind s m (selection_name parts)) next

abbrev pub name_meant : Sight → Forest Form → Option Meant
name_meant s pieces = if are_selections (next_of pieces) then Some (behind_meant s (head_meant s pieces) (next_of pieces)) else None

-- what an actual means that is a name of points alone, or a symbol
abbrev pub actual_meant : Sight → Forest Form → Option Meant
actual_meant s (more form.Quoted text place parts next) = Some (some_or 303 (s.visible (symbol_name text)))
actual_meant s (more form.Name text place parts next) = name_meant s parts
actual_meant s _ = None

abbrev pub declarations_meant : Option Meant → List ℕ
declarations_meant (Some (Means ks)) = ks
declarations_meant _ = []

-- its pieces: the last one has the function
abbrev pub pieces_named : Sight → ℕ → Meant → Forest Form → Forest Resolved
pieces_named s k m nothing = nothing
pieces_named s k m (more f text place parts nothing) = more (resolved f (Some k) None) text place (unresolved parts) nothing
pieces_named s k m (more f text place parts (more f' text' place' parts' next)) =
    more (resolved f (one_that (λ j. true) m) None) text place (unresolved parts)
    (pieces_named s k (meant_behind s m (selection_name parts')) (more f' text' place' parts' next))

abbrev pub function_named : Sight → Option ℕ → Forest Form → Forest Resolved
function_named s (Some k) (more form.Quoted text place parts next) = more (resolved form.Quoted (Some k) None) text place nothing nothing
function_named s (Some k) (more form.Name text place parts next) =
    more (resolved form.Name None None) text place (pieces_named s k (head_meant s parts) parts) nothing
function_named s _ tree = unresolved tree

-- ---- actuals that are refused: what is named is of another kind than the generic

abbrev pub of_other_kind : Place → Refused → Option Refused
of_other_kind place r = if r.rule == 307 then lesser (Some r) (broken 309 place) else Some r

-- an actual that is no mark
abbrev pub no_type : Place → Option Refused → Option Refused
no_type place None = broken 309 place
no_type place (Some r) = of_other_kind place r

-- A function's body has to have ended; what is given has one, and so has what a package instance declares. The two edge functions take a name of a
-- signal, and are no actuals.
abbrev pub is_written : Declaration → Bool
is_written declared = elim declared.class [ class.Function ↦ is_some declared.inside | _ ↦ false ]

abbrev pub is_unfit : Design → ℕ → Bool
is_unfit d k = (is_written (declaration_at d.scopes k) && not (has_body d k)) || is_edge_function d.scopes (Some k)

-- of functions of the profile there is one
abbrev pub refused_count : Design → Place → Place → List ℕ → Option Refused
refused_count d place name [] = broken 305 name
refused_count d place name (k ∷ []) = broken_if (is_unfit d k) 309 place
refused_count d place name (k ∷ j ∷ ks) = broken 306 name

abbrev pub refused_functions : Design → Known → List (Option ℕ) → Place → Place → List ℕ → Option Refused
refused_functions d k wanted place name [] = of_other_kind place (record { place = name; rule = 307 })
refused_functions d k wanted place name (f ∷ fs) =
    if list_all is_some wanted then refused_count d place name (of_profile k.sight wanted (f ∷ fs)) else None

abbrev pub refused_function : Design → Known → List (Option ℕ) → Place → Forest Form → Option Meant → Option Refused
refused_function d k wanted place tree None = lesser (broken 309 place) (first_refusal k.sight (want.Value BOOLEAN) tree)
refused_function d k wanted place tree (Some (Breaks rule)) = of_other_kind place (record { place = first_place tree; rule = rule })
refused_function d k wanted place tree (Some (Means ks)) = refused_functions d k wanted place (first_place tree) (functions_among k.sight ks)

-- a name that is a mark stands for no constant
abbrev pub is_mark_name : Sight → Forest Form → Bool
is_mark_name s (more form.Name text place parts next) = is_mark_seen (path_seen s parts)
is_mark_name s _ = false

-- ---- what an actual comes to, where its element has this place

abbrev pub type_outcome : At → Design → Place → Forest Form → Outcome
type_outcome at d place tree =
    let all = mark_readings at d tree in
    gives at d (only_reading tree all)
    (lesser (refused_pieces (sight at d) d at.region tree)
    (refused_unless_one (no_type place (first_refusal (sight at d) (want.Mark BOOLEAN) tree)) all))

abbrev pub function_outcome : At → Design → Known → ℕ → Place → Forest Form → Outcome
function_outcome at d k g place tree =
    let m = actual_meant k.sight tree in
    gives at d (function_named k.sight (function_among k.sight (profile_in k g) (declarations_meant m)) tree)
    (lesser (refused_pieces k.sight d at.region tree) (refused_function d k (profile_in k g) place tree m))

abbrev pub constant_outcome : At → Design → Known → ℕ → Place → Forest Form → Outcome
constant_outcome at d k g place tree =
    let o = where_known (with_mark wanted.OfType (mark_in k (mark_of k.sight g))) at d tree in
    record o { first = lesser o.first (broken_if (is_mark_name k.sight tree) 309 place) }

abbrev pub outcome_for : Class → At → Design → Known → ℕ → Place → Forest Form → Outcome
outcome_for c at d k g place (more form.Open text place' parts next) = gives at d (unresolved (more form.Open text place' parts nothing)) None
outcome_for class.GenericType at d k g place tree = type_outcome at d place tree
outcome_for class.GenericFunction at d k g place tree = function_outcome at d k g place tree
outcome_for _ at d k g place tree = constant_outcome at d k g place tree

-- ---- the actuals of types

abbrev pub is_generic_type : Class → Bool
is_generic_type class.GenericType = true
is_generic_type _ = false

abbrev pub is_generic_function : Class → Bool
is_generic_function class.GenericFunction = true
is_generic_function _ = false

abbrev pub type_for : At → Design → Forest Form → Option ℕ → List Actual
type_for at d tree None = []
type_for at d tree (Some g) = if is_generic_type (declaration_at d.scopes g).class then paired g (mark_declared (read_as_mark at d tree).tree) else []

abbrev pub types_given : At → Design → List Element → List Actual
types_given at d es = flat_map (λ e. type_for at d e.actual e.generic) es
