-- Mode views: their names, their elements, and what a view declares. (IEEE 1076-2019, mode view declarations; mode view indications)
use Rattle.std.specs.Prelude.{ℕ, ◌==◌, nat_lt, Bool, true, false, ◌&&◌, ◌||◌, not, List, [], ◌∷◌, ◌++◌, codes, length, Option, Some, None}
use Rattle.std.specs.List.{filter, list_all, list_any}
use Rattle.std.specs.Str.{bytes_eq}
use Rattle.vd_bytes.specs.declared.answers.Refused.{Refused}
use Rattle.vd_bytes.specs.declared.places.Place.{Place}
use Rattle.vd_declarations.specs.declared.classes.Class.{Class}
use Rattle.vd_declarations.specs.declared.classes.Class.TheVariants as class
use Rattle.vd_forest.specs.Forest.{Forest, nothing, more, place_of, parts_of, next_of, skipped}
use Rattle.vd_forms.specs.declared.form.Form.{Form}
use Rattle.vd_forms.specs.declared.form.Form.TheVariants as form
use Rattle.vd_regions.specs.Scopes.{declaration_at}
use Rattle.vd_resolved.specs.declared.node.Resolved.{Resolved}
use Rattle.vd_visible.specs.Types.{is_record}
use Rattle.vd_name_rows.specs.Designs.{At, Design, Outcome, sight, gives}
use Rattle.vd_name_rows.specs.Entering.{declaration_of, entering}
use Rattle.vd_name_rows.specs.Refusals.{lesser, broken, broken_if}
use Rattle.vd_name_rows.specs.declared.sorts.Sort.TheVariants as sort
use Rattle.vd_naming.specs.Expressions.{resolved, unresolved, type_declared}
use Rattle.vd_naming.specs.Paths.{named_as, is_some}
use Rattle.vd_naming.specs.Endings.{Ended, word_of, declares}
use Rattle.vd_naming.specs.Units.{found_inside, region_inside}
use Rattle.std.specs.Option.{unwrap_or}
use Rattle.vd_naming.specs.Statements.{alone}

-- ---- the name of a view

abbrev pub is_view : Class → Bool
is_view class.View = true
is_view _ = false

-- its record type is at hand then, and its place is kept
abbrev pub record_viewed : Design → Option ℕ → Option ℕ
record_viewed d None = None
record_viewed d (Some k) = (declaration_at d.scopes k).mark

abbrev pub with_viewed : Place → Design → Outcome → Outcome
with_viewed place d o = record o { at = record o.at { mark = record_viewed d o.at.named; word_place = place } }

abbrev pub view_name : At → Design → Place → Forest Form → Outcome
view_name at d place tree = with_viewed place d (named_as (λ k. is_view (declaration_at d.scopes k).class) at d place tree)

-- behind its apostrophe stands `converse` alone
abbrev pub converse : At → Design → Form → List ℕ → Place → Outcome
converse at d form.Absent text place = gives at d (unresolved (alone form.Absent text place nothing)) None
converse at d f text place = gives at d (unresolved (alone f text place nothing)) (broken_if (not (bytes_eq text (codes "converse"))) 307 place)

-- ---- a port with a view: the subtype behind `of` is one of the view's record type

abbrev pub are_other : Option ℕ → Option ℕ → Bool
are_other (Some t) (Some u) = not (t == u)
are_other _ _ = false

abbrev pub of_viewed_record : Form → Place → At → Outcome → Outcome
of_viewed_record form.Absent place at o = o
of_viewed_record _ place at o = record o { first = lesser o.first (broken_if (are_other at.mark o.at.mark) 308 at.word_place) }

-- ---- names of elements

abbrev pub elements_of : Design → Option ℕ → List ℕ
elements_of d None = []
elements_of d (Some t) = (declaration_at d.scopes t).parameters

abbrev pub element_named : Design → Option ℕ → List ℕ → Option ℕ
element_named d t name = found_inside (region_inside d t) sort.Element name d

-- of a record type that is known
abbrev pub missing_element : Option ℕ → Option ℕ → Place → Option Refused
missing_element None k place = None
missing_element (Some t) None place = broken 303 place
missing_element (Some t) (Some k) place = None

abbrev pub names_of_elements : Design → Option ℕ → Forest Form → Forest Resolved
names_of_elements d t nothing = nothing
names_of_elements d t (more f text place parts next) =
    more (resolved f (element_named d t text) None) text place (unresolved parts) (names_of_elements d t next)

abbrev pub missing_elements : Design → Option ℕ → Forest Form → Option Refused
missing_elements d t nothing = None
missing_elements d t (more f text place parts next) = lesser (missing_element t (element_named d t text) place) (missing_elements d t next)

abbrev pub element_names : At → Design → Form → List ℕ → Place → Forest Form → Outcome
element_names at d f text place parts =
    gives at d (more (resolved f None None) text place (names_of_elements d at.viewed parts) nothing) (missing_elements d at.viewed parts)

-- ---- a view: each element of the record once, and a view of its record type for a nested one

abbrev pub declaration_of_tree : Forest Resolved → Option ℕ
declaration_of_tree nothing = None
declaration_of_tree (more node text place parts next) = node.declaration

abbrev pub declarations_of : Forest Resolved → List (Option ℕ)
declarations_of nothing = []
declarations_of (more node text place parts next) = node.declaration ∷ declarations_of next

-- the elements that are given, of which some may be unknown
abbrev pub elements_given : Forest Resolved → List (Option ℕ)
elements_given nothing = []
elements_given (more node text place parts next) = declarations_of (parts_of parts) ++ elements_given next

abbrev pub is_element : ℕ → Option ℕ → Bool
is_element k None = false
is_element k (Some j) = k == j

abbrev pub times_given : List (Option ℕ) → ℕ → ℕ
times_given given k = length (filter (is_element k) given)

-- where one is unknown, none is missing
abbrev pub is_ill_given : List (Option ℕ) → ℕ → Bool
is_ill_given given k = nat_lt 1 (times_given given k) || ((times_given given k == 0) && list_all is_some given)

abbrev pub has_other_type : Design → Option ℕ → Option ℕ → Bool
has_other_type d t None = false
has_other_type d t (Some k) = are_other t (declaration_at d.scopes k).mark

-- of a view of this record type for these elements
abbrev pub nested_wrongly : Design → Option ℕ → List (Option ℕ) → Bool
nested_wrongly d t given = list_any (has_other_type d t) given

abbrev pub view_of_mode : Form → Forest Resolved → Option ℕ
view_of_mode form.ViewMode parts = declaration_of_tree parts
view_of_mode _ parts = None

abbrev pub view_in_element : Forest Resolved → Option ℕ
view_in_element nothing = None
view_in_element (more node text place parts next) = view_of_mode node.form parts

abbrev pub some_nested_wrongly : Design → Forest Resolved → Bool
some_nested_wrongly d nothing = false
some_nested_wrongly d (more node text place parts next) =
    nested_wrongly d (record_viewed d (view_in_element (next_of parts))) (declarations_of (parts_of parts)) || some_nested_wrongly d next

abbrev pub is_ill_viewed : Design → Option ℕ → Forest Resolved → Bool
is_ill_viewed d t trees = list_any (is_ill_given (elements_given trees)) (elements_of d t) || some_nested_wrongly d trees

-- the type of its mark, which has to be a record type
abbrev pub type_viewed : Ended → Option ℕ
type_viewed x = type_declared (sight x.outer x.inner.design) (declaration_of_tree (next_of x.inner.tree))

abbrev pub is_no_record : Ended → Option ℕ → Bool
is_no_record x None = false
is_no_record x (Some t) = not (is_record (declaration_at x.inner.design.scopes t).class)

abbrev pub refused_view : Ended → Option ℕ → Option Refused
refused_view x t =
    lesser (broken_if (is_no_record x t) 307 (unwrap_or (place_of (next_of x.parts)) x.place))
    (broken_if (is_ill_viewed x.inner.design t (parts_of (skipped 2 x.inner.tree))) 308 x.place)

abbrev pub view_declared : Ended → Option ℕ → Outcome
view_declared x t =
    let o = declares x x.inner.tree (entering x.outer.region (declaration_of class.View (word_of x) t) x.inner.design) in
    record o { first = lesser o.first (refused_view x t) }

abbrev pub view_ends : Ended → Outcome
view_ends x = view_declared x (type_viewed x)
