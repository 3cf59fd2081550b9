-- What an instance declares: what its package or function with generics declares, again, one by one and in order. (IEEE 1076-2019, package and subprogram
-- instantiation declarations)
-- So numbers and regions of the copies differ from those of the originals by an offset. As a type, a generic type is the type of its actual.
use Rattle.std.specs.Prelude.{ℕ, zero, suc, ◌+◌, ◌-◌, ◌==◌, nat_lt, Bool, false, ◌&&◌, ◌||◌, not, List, [], ◌∷◌, ◌++◌, map, take, drop, Option, Some, None, option_map, if◌then◌else◌}
use Rattle.std.specs.Option.{unwrap_or}
use Rattle.vd_declarations.specs.declared.classes.Class.{Class}
use Rattle.vd_declarations.specs.declared.classes.Class.TheVariants as class
use Rattle.vd_declarations.specs.declared.classes.Made.{Made}
use Rattle.vd_declarations.specs.declared.classes.Made.TheVariants as made
use Rattle.vd_declarations.specs.declared.declarations.Declaration.{Declaration}
use Rattle.vd_regions.specs.Scopes.{Scopes, Region, declaration_at}
use Rattle.vd_regions.specs.declared.entries.Entered.{Entered}
use Rattle.vd_visible.specs.Sights.{Sight}
use Rattle.vd_name_rows.specs.Designs.{Design, note_at, with_note, with_scopes}
use Rattle.vd_name_rows.specs.Noting.{span_at, has_bounds}
use Rattle.vd_name_rows.specs.declared.at.Actual.{Actual}
use Rattle.vd_name_rows.specs.declared.notes.Note.{Note}
use Rattle.vd_name_rows.specs.Members.{next_number, next_region}
use Rattle.vd_name_rows.specs.declared.notes.Span.{Span}
use Rattle.vd_naming.specs.Functions.{as_in}
use Rattle.vd_naming.specs.Associations.{is_among_numbers}
use Rattle.vd_naming.specs.Actuals.{Known, actual_of, type_in}

-- The span of what is instantiated, its declaration, and the region round the instance; the first number and region of the copies; what is known of
-- the generics, and the actuals of types and functions.
pub record Copying : Type 0 where
  pub span : Span
  pub generic : Declaration
  pub outer : ℕ
  pub first : ℕ
  pub first_region : ℕ
  pub known : Known
  pub actuals : List Actual

-- where nothing is known of a span, nothing is copied
abbrev pub copying : ℕ → ℕ → Sight → List Actual → Design → Copying
copying n outer s actuals d = record {
  span = span_at d n;
  generic = declaration_at d.scopes n;
  outer = outer;
  first = next_number d;
  first_region = next_region d;
  known = record { sight = s; generics = (declaration_at d.scopes n).generics; types = actuals };
  actuals = actuals;
}

-- ---- numbers and regions

abbrev pub number_of_copy : Copying → ℕ → ℕ
number_of_copy c n = as_in c.span.first c.span.end c.first n

abbrev pub region_of_copy : Copying → ℕ → ℕ
region_of_copy c r = as_in c.span.first_region c.span.end_region c.first_region r

-- the number behind the copies, and the region behind theirs, in which nothing looks
abbrev pub number_behind : Copying → ℕ
number_behind c = c.first + (c.span.end - c.span.first)

abbrev pub region_behind : Copying → ℕ
region_behind c = c.first_region + (c.span.end_region - c.span.first_region)

abbrev pub numbers_of_copies : Copying → List ℕ → List ℕ
numbers_of_copies c ks = map (number_of_copy c) ks

-- ---- types, and functions that are actuals themselves

abbrev pub type_of_copy : Copying → ℕ → ℕ
type_of_copy c t = if is_among_numbers c.generic.generics t then unwrap_or (type_in c.known t) t else number_of_copy c t

abbrev pub function_of_copy : Copying → ℕ → ℕ
function_of_copy c f = if is_among_numbers c.generic.generics f then unwrap_or (actual_of f c.actuals) f else number_of_copy c f

-- ---- declarations

abbrev pub is_own_generic : Copying → ℕ → Bool
is_own_generic c n = is_among_numbers c.generic.generics n

-- a generic stands for its actual
abbrev pub class_of_generic : Copying → ℕ → Class → Class
class_of_generic c n class.GenericType = class.Subtype (unwrap_or (actual_of n c.actuals) n)
class_of_generic c n class.GenericFunction = class.ActualFunction (unwrap_or (actual_of n c.actuals) n)
class_of_generic c n other = other

abbrev pub class_of_other : Copying → Class → Class
class_of_other c class.Function = class.InstanceFunction
class_of_other c (class.ArrayType index element element_mark) =
    class.ArrayType (type_of_copy c index) (type_of_copy c element) (number_of_copy c element_mark)
class_of_other c (class.Subtype mark) = class.Subtype (number_of_copy c mark)
class_of_other c (class.ActualFunction actual) = class.ActualFunction (function_of_copy c actual)
class_of_other c other = other

abbrev pub class_of_copy : Copying → ℕ → Class → Class
class_of_copy c n original = if is_own_generic c n then class_of_generic c n original else class_of_other c original

abbrev pub made_of_copy : Copying → ℕ → Made → Made
made_of_copy c n original = if is_own_generic c n then made.Generic else original

-- a subtype that stands for a generic type is one of its actual's type
abbrev pub mark_of_copy : Copying → ℕ → Declaration → Option ℕ
mark_of_copy c n original = elim original.class [
  | class.GenericType ↦ if is_own_generic c n then type_in c.known n else None
  | _ ↦ option_map (type_of_copy c) original.mark
]

abbrev pub declaration_of_copy : Copying → ℕ → Declaration → Declaration
declaration_of_copy c n original =
    record original {
      class = class_of_copy c n original.class;
      mark = mark_of_copy c n original;
      parameters = numbers_of_copies c original.parameters;
      generics = numbers_of_copies c original.generics;
      inside = option_map (region_of_copy c) original.inside;
      made = made_of_copy c n original.made;
    }

-- Of what stands in the region of the package or function, its generics and what it declares besides stand in that of the instance. The operators that
-- generic types brought with them are those of their actuals now, and their copies stand where nothing looks.
abbrev pub is_kept : Copying → ℕ → Bool
is_kept c n = is_own_generic c n || is_among_numbers c.generic.parameters n

abbrev pub region_for_copy : Copying → ℕ → ℕ → ℕ
region_for_copy c n r = if (r == c.span.first_region) && not (is_kept c n) then region_behind c else region_of_copy c r

-- of the declarations from a number on
abbrev pub entries_of_copies : Copying → ℕ → List Entered → List Entered
entries_of_copies c n [] = []
entries_of_copies c n (e ∷ es) =
    record { region = region_for_copy c n e.region; declaration = declaration_of_copy c n e.declaration } ∷ entries_of_copies c (suc n) es

-- ---- regions

abbrev pub region_round_copy : Copying → ℕ → ℕ
region_round_copy c r = if nat_lt r c.span.first_region then c.outer else region_of_copy c r

abbrev pub copy_of_region : Copying → Region → Region
copy_of_region c r = record { outer = region_round_copy c r.outer; continues = option_map (region_of_copy c) r.continues; closed = r.closed; uses = [] }

abbrev pub unseen_region : Copying → Region
unseen_region c = record { outer = c.outer; continues = None; closed = false; uses = [] }

-- ---- what else is known of the originals is known of the copies

abbrev pub span_of_copy : Copying → Span → Span
span_of_copy c x = record {
  first = number_of_copy c x.first;
  end = c.first + (x.end - c.span.first);
  first_region = region_of_copy c x.first_region;
  end_region = c.first_region + (x.end_region - c.span.first_region);
}

-- the copy of a generic type has bounds where its actual has
abbrev pub is_bounded_actual : Design → Option ℕ → Bool
is_bounded_actual d None = false
is_bounded_actual d (Some k) = has_bounds d k

abbrev pub note_of_copy : Copying → Design → ℕ → Note
note_of_copy c d n =
    record (note_at d n) {
      is_instance = false;
      is_bounded = (note_at d n).is_bounded || is_bounded_actual d (actual_of n c.actuals);
      is_loop = false;
      span = option_map (span_of_copy c) (note_at d n).span;
    }

-- of so many, from a number on
abbrev pub with_noted_copies : Copying → ℕ → ℕ → Design → Design
with_noted_copies c n zero d = d
with_noted_copies c n (suc left) d = with_noted_copies c (suc n) left (with_note (number_of_copy c n) (note_of_copy c d n) d)

-- ---- a design with the copies

abbrev pub some_of : {A : Type 0} → (first end : ℕ) → List A → List A
some_of first end xs = take (end - first) (drop first xs)

abbrev pub scopes_with_copies : Copying → Scopes → Scopes
scopes_with_copies c s = record {
  entered = s.entered ++ entries_of_copies c c.span.first (some_of c.span.first c.span.end s.entered);
  regions = s.regions ++ (map (copy_of_region c) (some_of c.span.first_region c.span.end_region s.regions) ++ unseen_region c ∷ []);
}

abbrev pub with_copies : Copying → Design → Design
with_copies c d = with_noted_copies c c.span.first (c.span.end - c.span.first) (with_scopes d (scopes_with_copies c d.scopes))
