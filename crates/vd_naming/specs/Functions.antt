-- Functions: their declarations and bodies, and functions that are generics. (IEEE 1076, subprogram declarations; subprogram bodies; IEEE 1076-2019, interface
-- subprogram declarations)
-- A header stands in a region of its own. A body has the number of its declaration, and what its header declares stands for what the header of the declaration
-- declares, one by one.
use Rattle.std.specs.Prelude.{ℕ, ◌+◌, ◌-◌, ◌==◌, nat_lt, Bool, true, false, ◌&&◌, ◌||◌, not, List, [], ◌∷◌, ◌++◌, map, length, Option, Some, None, option_map, if◌then◌else◌}
use Rattle.std.specs.Option.{option_or}
use Rattle.std.specs.Str.{bytes_eq}
use Rattle.vd_declarations.specs.declared.classes.Class.{Class}
use Rattle.vd_declarations.specs.declared.classes.Class.TheVariants as class
use Rattle.vd_declarations.specs.declared.declarations.Declaration.{Declaration}
use Rattle.vd_forest.specs.Forest.{Forest, nothing, more, next_of, no_place}
use Rattle.vd_forms.specs.declared.form.Form.{Form}
use Rattle.vd_forms.specs.declared.form.Form.TheVariants as form
use Rattle.vd_regions.specs.Homographs.{same_type, same_types, parameter_types}
use Rattle.vd_regions.specs.Scopes.{region_at, entered_at, declaration_at, continued}
use Rattle.vd_resolved.specs.declared.node.Resolved.{Resolved}
use Rattle.vd_name_rows.specs.declared.sorts.Sort.TheVariants as sort
use Rattle.vd_name_rows.specs.Designs.{At, Design, Outcome}
use Rattle.vd_name_rows.specs.Entering.{Word, declaration_of, Entering, entering}
use Rattle.vd_name_rows.specs.Members.{next_number, next_region, declared_in}
use Rattle.vd_name_rows.specs.Noting.{span_at, with_span, span_to, with_body, has_body, tied_to, with_formal}
use Rattle.vd_name_rows.specs.Words.{declared_name}
use Rattle.vd_name_rows.specs.declared.notes.Span.{Span}
use Rattle.vd_name_rows.specs.declared.notes.Taken.{Taken}
use Rattle.vd_naming.specs.Endings.{Ended, word_of, declares, finished, with_operators, noted, form_at, is_form}

-- ---- headers

-- a function is one with generics where its header has some
abbrev pub function_class : List ℕ → Class
function_class [] = class.Function
function_class (k ∷ ks) = class.UninstantiatedFunction

-- what stands in a header
abbrev pub header_generics : ℕ → Design → List ℕ
header_generics region d = declared_in region sort.Generic d

abbrev pub header_parameters : ℕ → Design → List ℕ
header_parameters region d = declared_in region sort.Parameter d

abbrev pub function_of : Class → Word → Option ℕ → ℕ → Design → Declaration
function_of c w result region d =
    record (declaration_of c w result) { parameters = header_parameters region d; generics = header_generics region d; inside = Some region }

-- with or without generics
abbrev pub written_function : Word → Option ℕ → ℕ → Design → Declaration
written_function w result region d = function_of (function_class (header_generics region d)) w result region d

-- ---- numbers of a header as those of another one

abbrev pub as_in : (first end other : ℕ) → ℕ → ℕ
as_in first end other n = if nat_lt n first then n else (if nat_lt n end then (n - first) + other else n)

abbrev pub mark_as_in : (first end other : ℕ) → Option ℕ → Option ℕ
mark_as_in first end other t = option_map (as_in first end other) t

-- ---- the declaration that a body belongs to: of this name, in the region of the body or in what that continues, without body so far, with the same types where
-- the generics of both headers are the same one by one

abbrev pub same_header : Design → (first end other : ℕ) → Declaration → Declaration → Bool
same_header d first end other body declared =
    same_type (mark_as_in first end other body.mark) declared.mark
    && (same_types (map (mark_as_in first end other) (parameter_types d.scopes body)) (parameter_types d.scopes declared)
    && (length body.generics == length declared.generics))

abbrev pub is_written_function : Class → Bool
is_written_function class.Function = true
is_written_function class.UninstantiatedFunction = true
is_written_function _ = false

abbrev pub is_declared_as : At → Design → Declaration → ℕ → Bool
is_declared_as at d body k =
    bytes_eq (declaration_at d.scopes k).name body.name
    && (not (has_body d k) && same_header d at.header (next_number d) (span_at d k).first body (declaration_at d.scopes k))

abbrev pub functions_round : Design → ℕ → List ℕ
functions_round d region = declared_in region sort.WrittenFunction d

abbrev pub first_that : (ℕ → Bool) → List ℕ → Option ℕ
first_that test [] = None
first_that test (k ∷ ks) = if test k then Some k else first_that test ks

abbrev pub first_in_regions : At → Design → Declaration → List ℕ → Option ℕ
first_in_regions at d body [] = None
first_in_regions at d body (r ∷ rs) = option_or (first_that (is_declared_as at d body) (functions_round d r)) (first_in_regions at d body rs)

-- the region round that of a header
abbrev pub round_of : Design → ℕ → ℕ
round_of d region = (region_at d.scopes region).outer

abbrev pub declaration_of_body : At → Design → Declaration → Option ℕ
declaration_of_body at d body = first_in_regions at d body (round_of d at.region ∷ continued d.scopes (round_of d at.region))

-- ---- the end of a header

-- Where there is a declaration, the header stands for that of it. Else the function is declared at the end of its body, and inside the body its name means what
-- it means round it. The body sees what its own header declares.
abbrev pub taken_for : ℕ → At → Design → Taken
taken_for k at d = record { first = at.header; end = next_number d; other = (span_at d k).first }

abbrev pub body_known : ℕ → At → Design → Declaration → Outcome → Outcome
body_known k at d new o =
    record o {
      at = record o.at { function = Some k; result = new.mark; header_end = next_number d };
      design = record d { taken = d.taken ++ taken_for k at d ∷ [] };
    }

abbrev pub body_begun : Design → Declaration → Outcome → Outcome
body_begun d new o = record o { at = record o.at { function = None; result = new.mark; header_end = next_number d; header_regions = next_region d } }

abbrev pub header_ends_as : Option ℕ → At → Design → Declaration → Outcome → Outcome
header_ends_as None at d new o = body_begun d new o
header_ends_as (Some k) at d new o = body_known k at d new o

-- the type of the result is at hand
abbrev pub header_ends : Outcome → Outcome
header_ends o =
    let new = written_function (record { name = o.at.word; place = o.at.word_place }) o.at.mark o.at.region o.design in
    header_ends_as (declaration_of_body o.at o.design new) o.at o.design new o

-- ---- the ends of functions

abbrev pub function_ends : Ended → Outcome
function_ends x =
    let k = next_number x.inner.design in
    let o = declares x x.inner.tree (entering x.outer.region (written_function (word_of x) x.inner.at.mark x.inside.region x.inner.design) x.inner.design) in
    record o { design = with_span k (span_to x.inside.header k x.inside.region o.design) o.design }

abbrev pub is_uninstantiated_function : Class → Bool
is_uninstantiated_function class.UninstantiatedFunction = true
is_uninstantiated_function _ = false

-- A body with generics is tied to its unit where it names another declaration of the region round it: outside a package this is the unit of every instance
-- anyway.
abbrev pub stands_round : Ended → ℕ → Option ℕ → Bool
stands_round x k None = false
stands_round x k (Some n) = ((entered_at x.inner.design.scopes n).region == x.outer.region) && not (n == k)

abbrev pub names_round : Ended → ℕ → Forest Resolved → Bool
names_round x k nothing = false
names_round x k (more node text place parts next) = stands_round x k node.declaration || (names_round x k parts || names_round x k next)

abbrev pub is_tied : Ended → Class → ℕ → Bool
is_tied x c k = is_uninstantiated_function c && names_round x k x.inner.tree

abbrev pub with_tied : Ended → Class → ℕ → Design → Design
with_tied x c k d = if is_tied x c k then tied_to k x.outer.unit d else d

-- a function without declaration: its designator is the second part of its body
abbrev pub designator : Forest Form → Word
designator nothing = record { name = []; place = no_place }
designator (more f text place parts next) = record { name = declared_name f text; place = place }

abbrev pub function_of_body : Ended → Declaration
function_of_body x = written_function (designator (next_of x.parts)) x.inner.at.result x.inside.region x.inner.design

abbrev pub header_span : Ended → Span
header_span x =
    record { first = x.inside.header; end = x.inner.at.header_end; first_region = x.inside.region; end_region = x.inner.at.header_regions }

abbrev pub entering_body : Ended → ℕ → Declaration → Entering
entering_body x k new = let e = entering x.outer.region new x.inner.design in
    record e { design = with_tied x new.class k (with_body k (with_span k (header_span x) e.design)) }

abbrev pub body_of : Option ℕ → Ended → Outcome
body_of None x = declares x x.inner.tree (entering_body x (next_number x.inner.design) (function_of_body x))
body_of (Some k) x =
    finished x (Some k) None x.inner.tree (with_tied x (declaration_at x.inner.design.scopes k).class k (with_body k x.inner.design)) None

abbrev pub body_ends : Ended → Outcome
body_ends x = body_of x.inner.at.function x

-- ---- generics

-- an instance has to give a type to each, and a function to each that has no `<>`
abbrev pub with_generic : ℕ → Bool → Entering → Entering
with_generic k needed e = noted e (with_formal k (record { mode = form.In; is_needed = needed }))

abbrev pub generic_function_ends : Ended → Outcome
generic_function_ends x =
    declares x x.inner.tree
    (with_generic (next_number x.inner.design) (is_form (form_at 4 x.parts) form.Absent)
    (entering x.outer.region (function_of class.GenericFunction (word_of x) x.inner.at.mark x.inside.region x.inner.design) x.inner.design))

abbrev pub generic_type_ends : Ended → Outcome
generic_type_ends x =
    declares x x.inner.tree
    (with_generic (next_number x.inner.design) true
    (with_operators x.outer.region (next_number x.inner.design) class.GenericType
    (entering x.outer.region (declaration_of class.GenericType (word_of x) None) x.inner.design)))

abbrev pub clause_ends : Ended → Outcome
clause_ends x = let o = finished x None None x.inner.tree x.inner.design None in
    record o { at = record o.at { header_end = next_number x.inner.design } }
