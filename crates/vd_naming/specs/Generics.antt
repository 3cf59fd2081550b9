-- What is instantiated, and generic maps. (IEEE 1076-2019, generic packages; generic subprograms; generic map aspects; IEEE 1076, entity instances)
use Rattle.std.specs.Prelude.{ℕ, Bool, true, ◌&&◌, ◌||◌, not, List, [], ◌∷◌, ◌++◌, Option, Some, None, if◌then◌else◌}
use Rattle.std.specs.List.{filter, flat_map, list_all, list_any}
use Rattle.vd_bytes.specs.declared.answers.Refused.{Refused}
use Rattle.vd_bytes.specs.declared.places.Place.{Place}
use Rattle.vd_declarations.specs.declared.classes.Class.{Class}
use Rattle.vd_forest.specs.Forest.{Forest, nothing, more, joined, parts_of}
use Rattle.vd_forms.specs.declared.form.Form.{Form}
use Rattle.vd_forms.specs.declared.form.Form.TheVariants as form
use Rattle.vd_regions.specs.Scopes.{declaration_at}
use Rattle.vd_visible.specs.Sights.{class_of, name_of}
use Rattle.vd_name_rows.specs.declared.at.Actual.{Actual}
use Rattle.vd_name_rows.specs.Designs.{At, Design, Outcome, sight, gives}
use Rattle.vd_name_rows.specs.Noting.{formal_at}
use Rattle.vd_name_rows.specs.Refusals.{lesser, broken, broken_if}
use Rattle.vd_naming.specs.Selected.{Meant, Means, Breaks, is_uninstantiated}
use Rattle.vd_naming.specs.Expressions.{resolved, unresolved}
use Rattle.vd_naming.specs.Paths.{one_that, path_meant, path_outside, prefix_pieces, named_path, refused_path, with_named, is_some}
use Rattle.vd_naming.specs.Functions.{is_uninstantiated_function}
use Rattle.vd_naming.specs.Statements.{alone}
use Rattle.vd_naming.specs.Ports.{names_of_expression, named_front, association_node}
use Rattle.vd_naming.specs.Associations.{Element, elements, value_for, has_value, are_known}
use Rattle.vd_naming.specs.Actuals.{Known, paired, profile_in, function_among, actual_meant, declarations_meant, is_unfit, outcome_for, is_generic_function, types_given}

-- ---- the package or function behind `new`

-- among what a name means, those that pass a test
abbrev pub meant_that : (ℕ → Bool) → Meant → Meant
meant_that test (Means ks) = Means (filter test ks)
meant_that test (Breaks rule) = Breaks rule

abbrev pub instantiated_as : Option ℕ → Meant → At → Design → Place → Forest Form → Option Refused → Outcome
instantiated_as k m at d place tree outside =
    record { tree = named_path k tree; at = with_named k None at; design = d; first = lesser (refused_path k m place) outside }

abbrev pub instantiated : (Class → Bool) → Forest Form → At → Design → Place → Forest Form → Outcome
instantiated test prefix at d place tree =
    let m = meant_that (λ k. test (declaration_at d.scopes k).class) (path_meant (sight at d) (parts_of tree)) in
    instantiated_as (one_that (λ k. true) m) m at d place tree (broken_if (path_outside (sight at d) d at.region prefix) 307 place)

-- a package with generics may be named here from outside
abbrev pub generic_package : At → Design → Place → Forest Form → Outcome
generic_package at d place tree = instantiated is_uninstantiated (prefix_pieces (parts_of tree)) at d place tree

abbrev pub generic_function : At → Design → Place → Forest Form → Outcome
generic_function at d place tree = instantiated is_uninstantiated_function (parts_of tree) at d place tree

-- ---- the functions that are actuals: those of the map, and for `<>` the only visible one of the generic's name and profile

abbrev pub default_function : Known → ℕ → Option ℕ
default_function k g = function_among k.sight (profile_in k g) (k.sight.visible (name_of k.sight g))

abbrev pub function_or_default : Design → Known → ℕ → Option (Forest Form) → Option ℕ
function_or_default d k g (Some tree) = function_among k.sight (profile_in k g) (declarations_meant (actual_meant k.sight tree))
function_or_default d k g None = if (formal_at d g).is_needed then None else default_function k g

abbrev pub function_for : Design → Known → List Element → ℕ → List Actual
function_for d k es g = if is_generic_function (class_of k.sight g) then paired g (function_or_default d k g (value_for g es)) else []

abbrev pub functions_given : Design → Known → List Element → List Actual
functions_given d k es = flat_map (function_for d k es) k.generics

-- ---- generics without value, where each element is for one

abbrev pub lacks_function : Design → Option ℕ → Bool
lacks_function d None = true
lacks_function d (Some f) = is_unfit d f

-- a type of the profile that is unknown is refused already
abbrev pub lacks_default : Design → Known → ℕ → Bool
lacks_default d k g =
    is_generic_function (class_of k.sight g) && (list_all is_some (profile_in k g) && lacks_function d (default_function k g))

abbrev pub lacks_value : Design → Known → List Element → ℕ → Bool
lacks_value d k es g = not (has_value g es) && ((formal_at d g).is_needed || lacks_default d k g)

abbrev pub missing_generic : At → Design → Known → List Element → Option Refused
missing_generic at d k es = broken_if (are_known es && list_any (lacks_value d k es) k.generics) 309 at.label_place

-- ---- the trees of a map

abbrev pub in_element : ℕ → Form → Place → Forest Form → Outcome → Outcome
in_element g form.Association place parts o = association_node place parts (named_front g (parts_of parts)) o None
in_element g _ place parts o = o

abbrev pub element_outcome : Option ℕ → At → Design → Known → Forest Form → Form → List ℕ → Place → Forest Form → Outcome
element_outcome None at d k actual f text place parts =
    gives at d (unresolved (alone f text place parts)) (lesser (broken 309 place) (names_of_expression at d (alone f text place parts)))
element_outcome (Some g) at d k actual f text place parts = in_element g f place parts (outcome_for (class_of k.sight g) at d k g place actual)

abbrev pub beside : Outcome → Outcome → Outcome
beside o p = record o { tree = joined o.tree p.tree; first = lesser o.first p.first }

abbrev pub elements_outcome : At → Design → Known → List Element → Forest Form → Outcome
elements_outcome at d k (e ∷ es) (more f text place parts next) =
    beside (element_outcome e.generic at d k e.actual f text place parts) (elements_outcome at d k es next)
elements_outcome at d k _ _ = gives at d nothing None

-- ---- a map

abbrev pub with_map : Known → List Element → At → Design → Form → List ℕ → Place → Outcome → Outcome
with_map k es at d f text place o =
    record o {
      tree = more (resolved f None None) text place o.tree nothing;
      at = record o.at { actuals = k.types ++ functions_given d k es };
      first = lesser o.first (missing_generic at d k es);
    }

abbrev pub map_between : List ℕ → List Element → At → Design → Form → List ℕ → Place → Forest Form → Outcome
map_between generics es at d f text place parts =
    let k : Known = record { sight = sight at d; generics = generics; types = types_given at d es } in
    with_map k es at d f text place (elements_outcome at d k es parts)

-- where it isn't known what is instantiated, nothing is named
abbrev pub map_of : Option ℕ → At → Design → Form → List ℕ → Place → Forest Form → Outcome
map_of None at d f text place parts = gives (record at { actuals = [] }) d (unresolved (alone f text place parts)) None
map_of (Some n) at d f text place parts =
    map_between (declaration_at d.scopes n).generics (elements d n (declaration_at d.scopes n).generics [] parts)
    at d f text place parts

abbrev pub generic_map : At → Design → Form → List ℕ → Place → Forest Form → Outcome
generic_map at d f text place parts = map_of at.named at d f text place parts
