-- Selected names, as marks, units and what is used. (IEEE 1076, selected names; use clauses)
use Rattle.std.specs.Prelude.{ℕ, Bool, true, false, ◌||◌, [], ◌∷◌, Option, Some, None, if◌then◌else◌}
pub use Rattle.std.specs.Prelude.{is_some}
use Rattle.vd_bytes.specs.declared.answers.Refused.{Refused}
use Rattle.vd_bytes.specs.declared.places.Place.{Place}
use Rattle.vd_declarations.specs.declared.classes.Class.{Class}
use Rattle.vd_declarations.specs.declared.classes.Class.TheVariants as class
use Rattle.vd_forest.specs.Forest.{Forest, nothing, more, parts_of}
use Rattle.vd_forms.specs.declared.form.Form.{Form}
use Rattle.vd_regions.specs.Scopes.{Scopes}
use Rattle.vd_resolved.specs.declared.node.Resolved.{Resolved}
use Rattle.vd_visible.specs.Kinds.{kind_of}
use Rattle.vd_visible.specs.Sights.{Sight}
use Rattle.vd_visible.specs.Types.{type_meant}
use Rattle.vd_ways.specs.Ways.{selected_name}
use Rattle.vd_name_rows.specs.Designs.{At, Design, Outcome, sight}
use Rattle.vd_name_rows.specs.Refusals.{lesser, broken, broken_if}
use Rattle.vd_naming.specs.Expressions.{resolved, unresolved}
use Rattle.vd_naming.specs.Selected.{Meant, Means, Breaks, some_or, meant_behind, means_outside}

abbrev pub meant_by : Sight → Meant → Forest Form → Meant
meant_by s m nothing = m
meant_by s m (more form text place parts next) = meant_by s (meant_behind s m (selected_name (kind_of form) text)) next

abbrev pub path_meant : Sight → Forest Form → Meant
path_meant s nothing = Breaks 303
path_meant s (more form text place parts next) = meant_by s (some_or 303 (s.visible text)) next

-- without its last piece
abbrev pub prefix_pieces : Forest Form → Forest Form
prefix_pieces nothing = nothing
prefix_pieces (more form text place parts nothing) = nothing
prefix_pieces (more form text place parts (more form' text' place' parts' next)) =
    more form text place parts (prefix_pieces (more form' text' place' parts' next))

-- the name, or what it begins with, is a package with generics from outside
abbrev pub passes_outside : Sight → Scopes → ℕ → Meant → Forest Form → Bool
passes_outside s scopes region m nothing = means_outside scopes region m
passes_outside s scopes region m (more form text place parts next) =
    means_outside scopes region m || passes_outside s scopes region (meant_behind s m (selected_name (kind_of form) text)) next

abbrev pub path_outside : Sight → Design → ℕ → Forest Form → Bool
path_outside s d region nothing = false
path_outside s d region (more form text place parts next) = passes_outside s d.scopes region (some_or 303 (s.visible text)) next

-- ---- what it has to mean: one declaration that fits

abbrev pub one_that : (ℕ → Bool) → Meant → Option ℕ
one_that fits (Means (k ∷ [])) = if fits k then Some k else None
one_that fits _ = None

abbrev pub rule_of : Meant → ℕ
rule_of (Means ks) = 307
rule_of (Breaks rule) = rule

abbrev pub refused_path : Option ℕ → Meant → Place → Option Refused
refused_path None m place = broken (rule_of m) place
refused_path (Some k) m place = None

-- the node of the name has what it means. It is refused at its first token
abbrev pub named_path : Option ℕ → Forest Form → Forest Resolved
named_path k nothing = nothing
named_path k (more form text place parts next) = more (resolved form k None) text place (unresolved parts) nothing

abbrev pub path_place : Forest Form → Place → Place
path_place nothing place = place
path_place (more form text place parts next) other = place

abbrev pub with_named : Option ℕ → Option ℕ → At → At
with_named k t at = record at { named = k; mark = t }

abbrev pub mark_meant : Sight → Option ℕ → Option ℕ
mark_meant s None = None
mark_meant s (Some k) = type_meant s k

-- a name that has to mean something that fits. It and its type, where it is a mark, are at hand then
abbrev pub named_as : (ℕ → Bool) → At → Design → Place → Forest Form → Outcome
named_as fits at d place tree =
    let m = path_meant (sight at d) (parts_of tree) in
    let k = one_that fits m in
    record {
      tree = named_path k tree;
      at = with_named k (mark_meant (sight at d) k) at;
      design = d;
      first = lesser (refused_path k m place) (broken_if (path_outside (sight at d) d at.region (parts_of tree)) 307 place);
    }

-- ---- marks

abbrev pub is_mark : Sight → ℕ → Bool
is_mark s k = is_some (type_meant s k)

abbrev pub mark : At → Design → Place → Forest Form → Outcome
mark at d place tree = named_as (is_mark (sight at d)) at d place tree

-- ---- units that declare something: packages, and instances of those with generics

abbrev pub is_package : Class → Bool
is_package class.Package = true
is_package class.PackageInstance = true
is_package class.UninstantiatedPackage = true
is_package _ = false

abbrev pub is_context : Class → Bool
is_context class.Context = true
is_context _ = false

abbrev pub is_entity : Class → Bool
is_entity class.Entity = true
is_entity _ = false
