-- Design units: what stands round them, and what they declare. (IEEE 1076, design units and their analysis; entity declarations; architecture bodies; package
-- declarations; package bodies; context declarations)
use Rattle.std.specs.Prelude.{ℕ, suc, ◌+◌, ◌==◌, nat_lt, Bool, true, false, ◌||◌, not, List, [], ◌∷◌, codes, Option, Some, None, if◌then◌else◌}
use Rattle.std.specs.List.{filter}
use Rattle.std.specs.Str.{bytes_eq}
use Rattle.vd_bytes.specs.declared.answers.Refused.{Refused}
use Rattle.vd_bytes.specs.declared.places.Place.{Place}
use Rattle.vd_declarations.specs.declared.classes.Class.{Class}
use Rattle.vd_declarations.specs.declared.classes.Class.TheVariants as class
use Rattle.vd_declarations.specs.declared.declarations.Declaration.{Declaration}
use Rattle.vd_forest.specs.Forest.{Forest, nothing, more, parts_of, next_of, text_of}
use Rattle.vd_forms.specs.declared.form.Form.{Form}
use Rattle.vd_forms.specs.declared.form.Form.TheVariants as form
use Rattle.vd_predefined.specs.declared.numbers.TheConstants.{WORK, STD, IEEE, REGION_OF_LIBRARIES, REGION_OF_WORK}
use Rattle.vd_regions.specs.Scopes.{region_at, declaration_at, with_clause, with_clauses}
use Rattle.vd_resolved.specs.declared.node.Resolved.{Resolved}
use Rattle.vd_visible.specs.Kinds.{kind_of}
use Rattle.vd_visible.specs.Sights.{Sight}
use Rattle.vd_ways.specs.Ways.{selected_name}
use Rattle.vd_name_rows.specs.declared.sorts.Sort.{Sort}
use Rattle.vd_name_rows.specs.declared.sorts.Sort.TheVariants as sort
use Rattle.vd_name_rows.specs.Designs.{At, Design, Outcome, sight, gives, with_scopes}
use Rattle.vd_name_rows.specs.Entering.{declaration_of, Entering, entering, entering_as, then_entering, nothing_entering}
use Rattle.vd_name_rows.specs.Members.{next_number, declared_in}
use Rattle.vd_name_rows.specs.Noting.{with_span, span_to, with_body, with_bodies, is_instance}
use Rattle.vd_name_rows.specs.Refusals.{lesser, broken, broken_if}
use Rattle.vd_naming.specs.Expressions.{resolved}
use Rattle.vd_naming.specs.Selected.{Meant, Breaks}
use Rattle.vd_naming.specs.Paths.{one_that, path_meant, path_outside, prefix_pieces, named_path, refused_path, rule_of, is_package, is_context}
use Rattle.vd_naming.specs.Endings.{Ended, finished, word_of, declares, closed}

-- ---- units of `work` by their names

abbrev pub is_named : Design → List ℕ → ℕ → Bool
is_named d name k = bytes_eq (declaration_at d.scopes k).name name

abbrev pub first_of : List ℕ → Option ℕ
first_of [] = None
first_of (k ∷ ks) = Some k

-- what a region declares under a name
abbrev pub found_in : ℕ → Sort → List ℕ → Design → Option ℕ
found_in region s name d = first_of (filter (is_named d name) (declared_in region s d))

abbrev pub found_inside : Option ℕ → Sort → List ℕ → Design → Option ℕ
found_inside None s name d = None
found_inside (Some region) s name d = found_in region s name d

abbrev pub unit_named : Sort → List ℕ → Design → Option ℕ
unit_named s name d = found_in REGION_OF_WORK s name d

-- ---- the primary unit of an architecture or a package body

-- what stands behind the context clauses and the references to contexts
abbrev pub main_of : Forest Form → Forest Form
main_of nothing = nothing
main_of (more form.ContextClause text place parts next) = main_of next
main_of (more form.ContextReference text place parts next) = main_of next
main_of (more form.ReferringUnit text place parts next) = main_of parts
main_of (more form.DesignUnit text place parts next) = main_of parts
main_of (more f text place parts next) = more f text place parts next

abbrev pub primary_by : Form → Forest Form → Design → Option ℕ
primary_by form.ArchitectureBody parts d = unit_named sort.Entity (text_of (next_of parts)) d
primary_by form.PackageBody parts d = unit_named sort.WrittenPackage (text_of parts) d
primary_by _ parts d = None

abbrev pub primary_of : Forest Form → Design → Option ℕ
primary_of nothing d = None
primary_of (more f text place parts next) d = primary_by f parts d

-- the region of the primary unit, and the context round it
abbrev pub region_inside : Design → Option ℕ → Option ℕ
region_inside d None = None
region_inside d (Some k) = (declaration_at d.scopes k).inside

abbrev pub context_round : Design → Option ℕ → ℕ → ℕ
context_round d None other = other
context_round d (Some r) other = (region_at d.scopes r).outer

-- A unit's context is a region of its own, in the context of its primary unit. A unit behind a reference to a context stands in the context of that.
abbrev pub round_unit : At → Design → Forest Form → ℕ
round_unit at d parts =
    if at.region == REGION_OF_LIBRARIES then context_round d (region_inside d (primary_of (main_of parts) d)) REGION_OF_LIBRARIES else at.region

-- ---- the names of units

abbrev pub is_library_word : List ℕ → Bool
is_library_word name = bytes_eq name (codes "work") || (bytes_eq name (codes "std") || bytes_eq name (codes "ieee"))

-- no unit has the name of a library
abbrev pub refused_word : Declaration → Option Refused
refused_word new = broken_if (is_library_word new.name) 301 new.place

abbrev pub entering_unit_in : ℕ → Declaration → Design → Entering
entering_unit_in region new d = let e = entering_as 301 region new d in
    record e { first = lesser e.first (refused_word new) }

abbrev pub entering_unit : Declaration → Design → Entering
entering_unit new d = entering_unit_in REGION_OF_WORK new d

abbrev pub unit_of : Class → Ended → Declaration
unit_of c x = record (declaration_of c (word_of x) None) { inside = Some x.inside.region }

abbrev pub unit_ends : Ended → Outcome
unit_ends x =
    let o = finished x None None x.inner.tree x.inner.design None in
    if x.outer.region == REGION_OF_LIBRARIES then record o { at = record o.at { unit = suc o.at.unit } } else o

-- ---- entities and architectures

-- The names of an entity's architectures stand in a region of their own, right behind that of the entity.
abbrev pub region_of_architectures : ℕ → ℕ
region_of_architectures inside = inside + 1

abbrev pub entity_ends : Ended → Outcome
entity_ends x =
    declares x x.inner.tree
    (entering_unit
    (record (unit_of class.Entity x) { parameters = declared_in x.inside.region sort.Port x.inner.design; generics = declared_in x.inside.region sort.Generic x.inner.design })
    (closed x.inside.region x.inner.design))

-- a unit that isn't analysed, or one of another class
abbrev pub no_unit : Option ℕ → Meant
no_unit None = Breaks 302
no_unit (Some k) = Breaks 307

-- the name of an entity in front of the architecture
abbrev pub entity_word : At → Design → Form → List ℕ → Place → Outcome
entity_word at d f text place =
    let k = unit_named sort.Entity text d in
    gives (record at { named = k }) d (more (resolved f k None) text place nothing nothing) (refused_path k (no_unit (unit_named sort.Any text d)) place)

abbrev pub entering_architecture : Option ℕ → Declaration → Design → Entering
entering_architecture None new d = record (nothing_entering d) { first = refused_word new }
entering_architecture (Some inside) new d = entering_unit_in (region_of_architectures inside) new d

-- the entity is known by its name, which is the second part
abbrev pub architecture_ends : Ended → Outcome
architecture_ends x =
    declares x x.inner.tree
    (entering_architecture (region_inside x.inner.design (unit_named sort.Entity (text_of (next_of x.parts)) x.inner.design))
    (declaration_of class.Architecture (word_of x) None) x.inner.design)

-- ---- packages, whose number stands at their names too

abbrev pub with_name : ℕ → Forest Resolved → Forest Resolved
with_name k nothing = nothing
with_name k (more node text place parts next) = more (record node { declaration = Some k }) text place parts next

abbrev pub package_class : List ℕ → Class
package_class [] = class.Package
package_class (k ∷ ks) = class.UninstantiatedPackage

-- what a package with generics declares besides them
abbrev pub from_number : ℕ → List ℕ → List ℕ
from_number n ks = filter (λ k. not (nat_lt k n)) ks

abbrev pub declared_besides : List ℕ → ℕ → ℕ → Design → List ℕ
declared_besides [] region first d = []
declared_besides (k ∷ ks) region first d = from_number first (declared_in region sort.Any d)

abbrev pub package_with : List ℕ → Ended → Declaration
package_with generics x =
    record (unit_of (package_class generics) x) { parameters = declared_besides generics x.inside.region x.inner.at.header_end x.inner.design; generics = generics }

-- a body of the package stands somewhere in the design
abbrev pub is_body_of : List ℕ → Forest Form → Bool
is_body_of name nothing = false
is_body_of name (more form.PackageBody text place parts next) = bytes_eq (text_of parts) name
is_body_of name (more _ text place parts next) = false

abbrev pub has_body_in : List ℕ → Forest Form → Bool
has_body_in name nothing = false
has_body_in name (more f text place parts next) = is_body_of name (main_of parts) || has_body_in name next

-- Instances of functions that a package declares have their bodies where that of the package begins, or at its end where it has none.
abbrev pub instances_in : ℕ → Design → List ℕ
instances_in region d = filter (is_instance d) (declared_in region sort.PlainFunction d)

abbrev pub with_instances_at_end : Forest Form → List ℕ → ℕ → Design → Design
with_instances_at_end whole name region d = if has_body_in name whole then d else with_bodies (instances_in region d) d

abbrev pub with_package_span : Ended → Design → Design
with_package_span x d = let k = next_number x.inner.design in
    with_span k (span_to x.inside.header k x.inside.region d) d

abbrev pub package_ends : Forest Form → Ended → Outcome
package_ends whole x =
    let o = declares x (with_name (next_number x.inner.design) x.inner.tree) (entering_unit (package_with (declared_in x.inside.region sort.Generic x.inner.design) x) (closed x.inside.region x.inner.design)) in
    record o {
      design = with_package_span x (with_instances_at_end whole x.inner.at.word x.inside.region o.design);
    }

abbrev pub body_of_package : Option ℕ → Ended → Outcome
body_of_package None x = finished x None None x.inner.tree x.inner.design None
body_of_package (Some k) x = finished x (Some k) None (with_name k x.inner.tree) (with_body k x.inner.design) None

abbrev pub package_body_ends : Ended → Outcome
package_body_ends x = body_of_package (unit_named sort.WrittenPackage (text_of x.parts) x.inner.design) x

-- ---- contexts

-- the name in front is one identifier
abbrev pub is_single : Forest Form → Bool
is_single nothing = false
is_single (more f text place parts nothing) = true
is_single (more f text place parts (more g text' place' parts' next)) = false

abbrev pub context_ends : Ended → Outcome
context_ends x =
    if is_single (parts_of x.parts) then declares x x.inner.tree (entering_unit (unit_of class.Context x) (closed x.inside.region x.inner.design))
    else finished x None None x.inner.tree x.inner.design None

-- ---- library clauses

abbrev pub library_named : List ℕ → Option ℕ
library_named name =
    if bytes_eq name (codes "work") then Some WORK
    else (if bytes_eq name (codes "std") then Some STD else (if bytes_eq name (codes "ieee") then Some IEEE else None))

abbrev pub library_as : Option ℕ → At → Design → Form → List ℕ → Place → Outcome
library_as None at d f text place = gives at d (more (resolved f None None) text place nothing nothing) (broken 302 place)
library_as (Some library) at d f text place =
    let e = entering at.region (declaration_of (class.LibraryName library) (record { name = text; place = place }) None) d in
    gives at e.design (more (resolved f (Some library) None) text place nothing nothing) e.first

abbrev pub library_word : At → Design → Form → List ℕ → Place → Outcome
library_word at d f text place = library_as (library_named text) at d f text place

-- ---- use clauses: all of a package, or what it declares under a name

abbrev pub last_piece : Forest Form → Option (List ℕ)
last_piece nothing = None
last_piece (more form text place parts nothing) = selected_name (kind_of form) text
last_piece (more form text place parts (more form' text' place' parts' next)) = last_piece (more form' text' place' parts' next)

abbrev pub is_all : Forest Form → Bool
is_all nothing = false
is_all (more form.All text place parts nothing) = true
is_all (more _ text place parts nothing) = false
is_all (more form text place parts (more form' text' place' parts' next)) = is_all (more form' text' place' parts' next)

abbrev pub is_empty : List ℕ → Bool
is_empty [] = true
is_empty (k ∷ ks) = false

abbrev pub missing_name : Sight → ℕ → Option (List ℕ) → Place → Option Refused
missing_name s k None place = broken 307 place
missing_name s k (Some name) place = broken_if (is_empty (s.selected k name)) 303 place

abbrev pub used_name : Bool → Option (List ℕ) → Option (List ℕ)
used_name true name = None
used_name false name = name

abbrev pub with_used : At → Design → Option ℕ → Option (List ℕ) → Design
with_used at d None name = d
with_used at d (Some from) name = with_scopes d (with_clause d.scopes at.region (record { from = from; name = name }))

abbrev pub used : At → Design → ℕ → Place → Forest Form → Outcome
used at d k place tree =
    gives at (with_used at d (declaration_at d.scopes k).inside (used_name (is_all (parts_of tree)) (last_piece (parts_of tree)))) (named_path (Some k) tree)
    (lesser (if is_all (parts_of tree) then None else missing_name (sight at d) k (last_piece (parts_of tree)) place)
    (broken_if (path_outside (sight at d) d at.region (parts_of tree)) 307 place))

abbrev pub used_as : Option ℕ → Meant → At → Design → Place → Forest Form → Outcome
used_as None m at d place tree = gives at d (named_path None tree) (broken (rule_of m) place)
used_as (Some k) m at d place tree = used at d k place tree

-- the name has the package at its node
abbrev pub use_name : At → Design → Place → Forest Form → Outcome
use_name at d place tree =
    let m = path_meant (sight at d) (prefix_pieces (parts_of tree)) in
    used_as (one_that (λ k. is_package (declaration_at d.scopes k).class) m) m at d place tree

-- ---- references to contexts: their clauses again

abbrev pub entering_libraries : ℕ → List ℕ → Design → Entering
entering_libraries region [] d = nothing_entering d
entering_libraries region (k ∷ ks) d =
    then_entering (record { design = (entering region (declaration_at d.scopes k) d).design; first = None }) (entering_libraries region ks)

abbrev pub clauses_again : ℕ → Option ℕ → Design → Design
clauses_again region None d = d
clauses_again region (Some context) d =
    let e = (entering_libraries region (declared_in context sort.Any d) d).design in
    with_scopes e (with_clauses region (region_at d.scopes context).uses e.scopes)

abbrev pub referred : Option ℕ → Meant → At → Design → Place → Forest Form → Outcome
referred None m at d place tree = gives at d (named_path None tree) (broken (rule_of m) place)
referred (Some k) m at d place tree = gives at (clauses_again at.region (declaration_at d.scopes k).inside d) (named_path (Some k) tree) None

abbrev pub context_name : At → Design → Place → Forest Form → Outcome
context_name at d place tree =
    let m = path_meant (sight at d) (parts_of tree) in
    referred (one_that (λ k. is_context (declaration_at d.scopes k).class) m) m at d place tree
