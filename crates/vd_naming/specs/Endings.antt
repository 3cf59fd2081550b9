-- What a form declares at its end: objects, types, subtypes. (IEEE 1076, declarations; types; subtype declarations)
use Rattle.std.specs.Prelude.{ℕ, suc, Bool, true, false, ◌&&◌, ◌||◌, not, List, [], ◌∷◌, Option, Some, None}
use Rattle.std.specs.Option.{unwrap_or}
use Rattle.vd_bytes.specs.declared.answers.Refused.{Refused}
use Rattle.vd_bytes.specs.declared.places.Place.{Place}
use Rattle.vd_declarations.specs.declared.classes.Class.{Class}
use Rattle.vd_declarations.specs.declared.classes.Class.TheVariants as class
use Rattle.vd_declarations.specs.declared.declarations.Declaration.{Declaration}
use Rattle.vd_forest.specs.Forest.{Forest, nothing, more, form_of, parts_of, next_of, skipped}
use Rattle.vd_forms.specs.declared.form.Form.{Form}
use Rattle.vd_forms.specs.declared.form.Form.TheVariants as form
use Rattle.vd_forms.specs.Forms.{same_form}
use Rattle.vd_predefined.specs.Operators.{with_operators_of}
use Rattle.vd_predefined.specs.Given.{with_end}
use Rattle.vd_regions.specs.Scopes.{declaration_at}
use Rattle.vd_resolved.specs.declared.node.Resolved.{Resolved}
use Rattle.vd_visible.specs.Types.{is_scalar, element_of}
use Rattle.vd_name_rows.specs.Noting.{has_bounds, with_bounds, with_formal}
use Rattle.vd_name_rows.specs.declared.sorts.Sort.TheVariants as sort
use Rattle.vd_name_rows.specs.Designs.{At, Design, Outcome, with_scopes}
use Rattle.vd_name_rows.specs.Entering.{Word, words_of, words_in, numbered, declaration_of, Entering, entering, then_entering, nothing_entering, entering_words}
use Rattle.vd_name_rows.specs.Members.{next_number, declared_in}
use Rattle.vd_name_rows.specs.Refusals.{lesser, broken_if}
use Rattle.vd_name_rows.specs.declared.notes.Formal.{Formal}
use Rattle.vd_naming.specs.Expressions.{resolved, mark_of}
use Rattle.vd_naming.specs.Paths.{is_some}

-- A node whose parts are resolved: what is known in front of it, inside it before its parts, and what these come to.
pub record Ended : Type 0 where
  pub form : Form
  pub text : List ℕ
  pub place : Place
  pub parts : Forest Form
  pub outer : At
  pub inside : At
  pub inner : Outcome

-- what the trees behind a node know of its parts
abbrev pub behind : At → At → At
behind outer inner = record outer { named = inner.named; mark = inner.mark }

-- the node, with a declaration and a type
abbrev pub finished : Ended → Option ℕ → Option ℕ → Forest Resolved → Design → Option Refused → Outcome
finished x k t parts d first =
    record { tree = more (resolved x.form k t) x.text x.place parts nothing; at = behind x.outer x.inner.at; design = d; first = lesser x.inner.first first }

abbrev pub nothing_ends : Ended → Outcome
nothing_ends x = finished x None None x.inner.tree x.inner.design None

-- the parameter of a loop or generate is the first that is declared inside
abbrev pub first_ends : Ended → Outcome
first_ends x = finished x (Some x.inside.next) None x.inner.tree x.inner.design None

-- behind a declaration of ports the numbers go on
abbrev pub typed_ends : Ended → Outcome
typed_ends x =
    let o = finished x None x.inner.at.mark x.inner.tree x.inner.design None in
    record o { at = record o.at { next = x.inner.at.next } }

-- with what is entered
abbrev pub entered : Ended → Option ℕ → Forest Resolved → Entering → Outcome
entered x k parts e = finished x k None parts e.design e.first

-- what is declared is the next declaration
abbrev pub declares : Ended → Forest Resolved → Entering → Outcome
declares x parts e = entered x (Some (next_number x.inner.design)) parts e

-- the name that was read
abbrev pub word_of : Ended → Word
word_of x = record { name = x.inner.at.word; place = x.inner.at.word_place }

-- ---- objects

abbrev pub form_at : ℕ → Forest Form → Form
form_at n parts = unwrap_or (form_of (skipped n parts)) form.Absent

abbrev pub is_form : Form → Form → Bool
is_form f g = same_form f g

-- a mode that isn't written is `in`
abbrev pub mode_of : Form → Form → Form
mode_of form.ViewPort word = form.ViewMode
mode_of _ form.Absent = form.In
mode_of _ word = word

-- an instance gives a value to a port with a view, and to a generic or `in` port without default
abbrev pub needs_value : Form → Form → Bool
needs_value form.ViewMode default = true
needs_value form.In default = is_form default form.Absent
needs_value _ default = false

abbrev pub formal_of : Form → Forest Form → Formal
formal_of f parts = record { mode = mode_of f (form_at 2 parts); is_needed = needs_value (mode_of f (form_at 2 parts)) (form_at 4 parts) }

-- as many as there are names, from a number on
abbrev pub with_formals : Formal → ℕ → List Word → Design → Design
with_formals f k [] d = d
with_formals f k (w ∷ ws) d = with_formals f (suc k) ws (with_formal k f d)

-- ports and generic constants are formals
abbrev pub with_formals_of : Class → Form → Forest Form → ℕ → List Word → Design → Design
with_formals_of class.Port f parts k ws d = with_formals (formal_of f parts) k ws d
with_formals_of class.GenericConstant f parts k ws d = with_formals (formal_of f parts) k ws d
with_formals_of _ f parts k ws d = d

abbrev pub noted : Entering → (Design → Design) → Entering
noted e note = record e { design = note e.design }

abbrev pub entering_objects : ℕ → Class → Form → Forest Form → Option ℕ → List Word → Design → Entering
entering_objects region c f parts mark ws d = noted (entering_words region c mark ws d) (with_formals_of c f parts (next_number d) ws)

abbrev pub objects_end : Class → ℕ → Ended → Outcome
objects_end c names x =
    entered x None x.inner.tree (entering_objects x.outer.region c x.form x.parts x.inner.at.mark (words_in names x.parts) x.inner.design)

-- ports are declared together: their names, each list with the type at its node
abbrev pub entering_ports : ℕ → Forest Form → Forest Resolved → Design → Entering
entering_ports region (more form text place parts next) (more node text' place' parts' next') d =
    then_entering (entering_objects region class.Port form parts node.mark (words_in 1 parts) d) (entering_ports region next next')
entering_ports region _ _ d = nothing_entering d

abbrev pub ports_end : Ended → Outcome
ports_end x = entered x None x.inner.tree (entering_ports x.outer.region x.parts x.inner.tree x.inner.design)

-- ---- subtype indications: a range for a scalar, and one index range for an array without bounds

abbrev pub is_bounded : Design → Option ℕ → Bool
is_bounded d None = true
is_bounded d (Some k) = has_bounds d k

abbrev pub can_be_narrower : Form → Design → Class → Option ℕ → Bool
can_be_narrower form.IndexConstraint d c k = is_some (element_of c) && not (is_bounded d k)
can_be_narrower form.RangeConstraint d c k = is_scalar c
can_be_narrower _ d c k = true

abbrev pub form_of_next : Forest Form → Form
form_of_next nothing = form.Absent
form_of_next (more f text place parts nothing) = form.Absent
form_of_next (more f text place parts (more g text' place' parts' next)) = g

abbrev pub misfits : Ended → Option ℕ → Bool
misfits x None = false
misfits x (Some t) = not (can_be_narrower (form_of_next x.parts) x.inner.design (declaration_at x.inner.design.scopes t).class x.inner.at.named)

abbrev pub indication_ends : Ended → Outcome
indication_ends x = finished x None None x.inner.tree x.inner.design (broken_if (misfits x x.inner.at.mark) 307 x.place)

-- ---- types

-- the operators that a type brings with it, in the region of the type
abbrev pub with_operators : ℕ → ℕ → Class → Entering → Entering
with_operators region t c e = record e { design = with_scopes e.design (with_operators_of e.design.scopes region t c) }

abbrev pub entering_type : ℕ → Declaration → Design → Entering
entering_type region new d = with_operators region (next_number d) new.class (entering region new d)

-- an enumeration type, and right behind it its literals
abbrev pub entering_enumeration : ℕ → Word → List Word → Design → Entering
entering_enumeration region w literals d =
    with_operators region (next_number d) class.EnumerationType
    (then_entering (entering region (declaration_of class.EnumerationType w None) d) (entering_words region class.EnumerationLiteral (Some (next_number d)) literals))

abbrev pub or_zero : Option ℕ → ℕ
or_zero k = unwrap_or k 0

abbrev pub has_range : Forest Form → Bool
has_range nothing = false
has_range (more form.UnconstrainedIndex text place parts next) = false
has_range (more _ text place parts next) = true

-- an array type: its index and the type and mark of its elements
abbrev pub array_class : Ended → Forest Resolved → Class
array_class x definition = class.ArrayType (or_zero (mark_of (parts_of definition))) (or_zero x.inner.at.mark) (or_zero x.inner.at.named)

abbrev pub entering_array : Ended → Forest Form → Forest Resolved → Design → Entering
entering_array x syntax definition d =
    entering_type x.outer.region (declaration_of (array_class x definition) (word_of x) None) (with_bounds (has_range (parts_of syntax)) (next_number d) d)

-- a record type, whose elements stand in its region
abbrev pub record_of : Ended → Design → Declaration
record_of x d =
    record (declaration_of class.RecordType (word_of x) None) { parameters = declared_in x.inside.region sort.Element d; inside = Some x.inside.region }

abbrev pub closed : ℕ → Design → Design
closed region d = with_scopes d (with_end d.scopes region)

abbrev pub entering_record : Ended → Design → Entering
entering_record x d = entering_type x.outer.region (record_of x d) (closed x.inside.region d)

abbrev pub entering_definition : Ended → Form → Forest Form → Forest Resolved → Design → Entering
entering_definition x form.EnumerationType syntax definition d = entering_enumeration x.outer.region (word_of x) (words_of (parts_of syntax)) d
entering_definition x form.ArrayType syntax definition d = entering_array x syntax definition d
entering_definition x form.RecordType syntax definition d = entering_record x d
entering_definition x _ syntax definition d = nothing_entering d

-- the literals of an enumeration have the numbers behind that of the type
abbrev pub literals_numbered : Form → ℕ → Forest Resolved → Forest Resolved
literals_numbered form.EnumerationType t (more node text place parts next) = more node text place (numbered (suc t) parts) next
literals_numbered _ t definition = definition

abbrev pub with_literals : Form → ℕ → Forest Resolved → Forest Resolved
with_literals f t nothing = nothing
with_literals f t (more node text place parts next) = more node text place parts (literals_numbered f t next)

abbrev pub type_ends : Ended → Outcome
type_ends x =
    declares x (with_literals (form_of_next x.parts) (next_number x.inner.design) x.inner.tree)
    (entering_definition x (form_of_next x.parts) (next_of x.parts) (next_of x.inner.tree) x.inner.design)

-- ---- subtypes

-- the indication of the second part has an index constraint
abbrev pub is_index_constraint : Form → Bool
is_index_constraint form.IndexConstraint = true
is_index_constraint _ = false

abbrev pub has_index_constraint : Forest Form → Bool
has_index_constraint parts = is_index_constraint (form_of_next (parts_of (next_of parts)))

abbrev pub is_narrow : Ended → Bool
is_narrow x = has_index_constraint x.parts || is_bounded x.inner.design x.inner.at.named

abbrev pub subtype_ends : Ended → Outcome
subtype_ends x =
    declares x x.inner.tree
    (entering x.outer.region (declaration_of (class.Subtype (or_zero x.inner.at.named)) (word_of x) x.inner.at.mark)
    (with_bounds (is_narrow x) (next_number x.inner.design) x.inner.design))
