-- What is seen of a name by what is visible alone. (IEEE 1076, names; visibility)
-- As a rule of thumb, a name is refused for what its own text and the declarations that are visible tell, and never for what overload
-- resolution would have to find: behind a function, an enumeration literal or an attribute nothing is refused but an attribute that nothing
-- has, and what can't stand there whatever the name means.
use Rattle.std.specs.Prelude.{ℕ, ◌==◌, Bool, true, false, ◌||◌, not, List, [], ◌∷◌, Option, Some, None, if◌then◌else◌}
use Rattle.vd_declarations.specs.declared.classes.Class.{Class}
use Rattle.vd_declarations.specs.declared.classes.Class.TheVariants as class
use Rattle.vd_declarations.specs.Classes.{is_overloadable}
use Rattle.vd_forest.specs.Forest.{Forest, nothing, more, text_of}
use Rattle.vd_forms.specs.declared.form.Form.{Form}
use Rattle.vd_predefined.specs.declared.numbers.TheConstants.{TIME}
use Rattle.vd_visible.specs.declared.kinds.Kind.{Kind}
use Rattle.vd_visible.specs.declared.kinds.Kind.TheVariants as kind
use Rattle.vd_visible.specs.declared.attributes.Attribute.{Attribute}
use Rattle.vd_visible.specs.declared.attributes.Attribute.TheVariants as attribute
use Rattle.vd_visible.specs.declared.roles.Role.{Role}
use Rattle.vd_visible.specs.declared.roles.Role.TheVariants as role
use Rattle.vd_visible.specs.Kinds.{kind_of, attribute_named, role_of}
use Rattle.vd_visible.specs.Sights.{Sight, class_of, mark_of}
use Rattle.vd_visible.specs.Types.{is_scalar, element_of, type_meant}
use Rattle.vd_visible.specs.Lists.{elements_named}
use Rattle.vd_ways.specs.Ways.{symbol_name, selection_name}
use Rattle.vd_refusals.specs.declared.seen.Seen.{Seen}
use Rattle.vd_refusals.specs.declared.seen.Seen.TheVariants as seen

-- ---- what is visible under a name

abbrev pub value_seen : Option ℕ → Bool → Seen
value_seen None signal = seen.Unknown
value_seen (Some t) signal = seen.Valued t signal

abbrev pub mark_seen : Option ℕ → Seen
mark_seen None = seen.Unknown
mark_seen (Some t) = seen.Mark t

-- what is neither a unit, a mark, an object, a function nor a literal can't stand in an expression
abbrev pub other_seen : Class → Seen
other_seen c = if is_overloadable c then seen.Unknown else seen.Broken 307

abbrev pub role_seen : Role → Sight → ℕ → Seen
role_seen role.Unit s k = seen.Unit k
role_seen role.Object s k = value_seen (mark_of s k) false
role_seen role.Signal s k = value_seen (mark_of s k) true
role_seen role.Literal s k = seen.Unknown
role_seen role.Function s k = seen.Unknown
role_seen role.Mark s k = mark_seen (type_meant s k)
role_seen role.Other s k = other_seen (class_of s k)

-- where several are visible, they are overloadable
abbrev pub first_seen : Sight → List ℕ → Seen
first_seen s [] = seen.Broken 303
first_seen s (k ∷ ks) = role_seen (role_of (class_of s k)) s k

abbrev pub head_seen : Kind → Sight → List ℕ → Seen
head_seen kind.Identifier s text = first_seen s (s.visible text)
head_seen kind.Quoted s text = first_seen s (s.visible (symbol_name text))
head_seen _ s text = seen.Unknown

-- ---- behind a point

abbrev pub element_seen : Sight → List ℕ → Bool → Seen
element_seen s [] signal = seen.Broken 303
element_seen s (k ∷ ks) signal = value_seen (mark_of s k) signal

-- a library has no such unit yet, or another unit no such declaration
abbrev pub missing_in : Class → ℕ
missing_in class.Library = 302
missing_in _ = 303

abbrev pub declared_seen : Sight → Class → List ℕ → Seen
declared_seen s unit [] = seen.Broken (missing_in unit)
declared_seen s unit (k ∷ ks) = first_seen s (k ∷ ks)

abbrev pub selected_seen : Seen → Sight → List ℕ → Seen
selected_seen (seen.Unit k) s name = declared_seen s (class_of s k) (s.selected k name)
selected_seen (seen.Mark t) s name = seen.Broken 307
selected_seen (seen.Valued t signal) s name = element_seen s (elements_named s t name) signal
selected_seen seen.Ranged s name = seen.Unknown
selected_seen seen.Awaiting s name = seen.Unknown
selected_seen seen.Unknown s name = seen.Unknown
selected_seen (seen.Broken rule) s name = seen.Broken rule

-- `all` declares nothing
abbrev pub selection_seen : Seen → Sight → Option (List ℕ) → Seen
selection_seen (seen.Broken rule) s name = seen.Broken rule
selection_seen p s None = seen.Broken 303
selection_seen p s (Some name) = selected_seen p s name

-- ---- names that are ranges or marks, as the one index of a slice

abbrev pub is_reverse : Attribute → Bool
is_reverse attribute.ReverseRange = true
is_reverse _ = false

abbrev pub is_range_piece : Kind → Forest Form → Bool
is_range_piece kind.RangeAttribute parts = true
is_range_piece kind.Attribute parts = is_reverse (attribute_named (text_of parts))
is_range_piece _ parts = false

abbrev pub has_range_piece : Forest Form → Bool
has_range_piece nothing = false
has_range_piece (more form text place parts next) = is_range_piece (kind_of form) parts || has_range_piece next

-- a name of points alone
abbrev pub path_step : Kind → Sight → Seen → Forest Form → Seen
path_step kind.Selection s p parts = selection_seen p s (selection_name parts)
path_step _ s p parts = seen.Unknown

abbrev pub path_from : Sight → Seen → Forest Form → Seen
path_from s p nothing = p
path_from s p (more form text place parts next) = path_from s (path_step (kind_of form) s p parts) next

abbrev pub path_seen : Sight → Forest Form → Seen
path_seen s nothing = seen.Unknown
path_seen s (more form text place parts next) = path_from s (head_seen (kind_of form) s text) next

abbrev pub is_mark_seen : Seen → Bool
is_mark_seen (seen.Mark t) = true
is_mark_seen _ = false

abbrev pub is_range_name : Sight → Forest Form → Bool
is_range_name s pieces = has_range_piece pieces || is_mark_seen (path_seen s pieces)

abbrev pub is_range_form : Kind → Sight → Forest Form → Bool
is_range_form kind.Bounds s parts = true
is_range_form kind.Name s parts = is_range_name s parts
is_range_form _ s parts = false

abbrev pub is_range_at : Sight → Forest Form → Bool
is_range_at s nothing = false
is_range_at s (more form text place parts next) = is_range_form (kind_of form) s parts

-- ---- behind brackets, apostrophes, and all suffixes

abbrev pub part_seen : Bool → Option ℕ → ℕ → Bool → Seen
part_seen range None t signal = seen.Unknown
part_seen range (Some element) t signal = seen.Valued (if range then t else element) signal

abbrev pub bracket_seen : Seen → Sight → Forest Form → Seen
bracket_seen (seen.Unit k) s parts = seen.Broken 307
bracket_seen (seen.Mark t) s parts = seen.Valued t false
bracket_seen (seen.Valued t signal) s parts = part_seen (is_range_at s parts) (element_of (class_of s t)) t signal
bracket_seen seen.Ranged s parts = seen.Unknown
bracket_seen seen.Awaiting s parts = seen.Unknown
bracket_seen seen.Unknown s parts = seen.Unknown
bracket_seen (seen.Broken rule) s parts = seen.Broken rule

-- what an attribute gives: a range, a value, or a function whose argument stands behind it
abbrev pub attribute_gives : Attribute → Seen
attribute_gives attribute.ReverseRange = seen.Ranged
attribute_gives attribute.Position = seen.Awaiting
attribute_gives attribute.ValueAt = seen.Awaiting
attribute_gives attribute.Neighbour = seen.Awaiting
attribute_gives attribute.Image = seen.Awaiting
attribute_gives _ = seen.Unknown

abbrev pub attribute_seen : Seen → Attribute → Seen
attribute_seen (seen.Broken rule) a = seen.Broken rule
attribute_seen p a = attribute_gives a

-- a qualified expression begins with a mark
abbrev pub qualification_seen : Seen → Seen
qualification_seen (seen.Mark t) = seen.Valued t false
qualification_seen (seen.Broken rule) = seen.Broken rule
qualification_seen _ = seen.Broken 307

abbrev pub piece_seen : Kind → Sight → Seen → Forest Form → Seen
piece_seen kind.Selection s p parts = selection_seen p s (selection_name parts)
piece_seen kind.Arguments s p parts = bracket_seen p s parts
piece_seen kind.Attribute s p parts = attribute_seen p (attribute_named (text_of parts))
piece_seen kind.RangeAttribute s p parts = attribute_seen p attribute.ReverseRange
piece_seen kind.Qualification s p parts = qualification_seen p
piece_seen _ s p parts = p

abbrev pub pieces_seen : Sight → Seen → Forest Form → Seen
pieces_seen s p nothing = p
pieces_seen s p (more form text place parts next) = pieces_seen s (piece_seen (kind_of form) s p parts) next

-- the whole of a name
abbrev pub name_seen : Sight → Forest Form → Seen
name_seen s nothing = seen.Unknown
name_seen s (more form text place parts next) = pieces_seen s (head_seen (kind_of form) s text) next

-- ---- attributes that something seen so can have

abbrev pub scalar_has : Attribute → ℕ → Bool
scalar_has attribute.Bound t = true
scalar_has attribute.Position t = true
scalar_has attribute.ValueAt t = true
scalar_has attribute.Neighbour t = true
scalar_has attribute.Image t = not (t == TIME)
scalar_has _ t = false

abbrev pub array_has : Attribute → Option ℕ → Bool
array_has a None = false
array_has attribute.Bound (Some element) = true
array_has attribute.Length (Some element) = true
array_has attribute.ReverseRange (Some element) = true
array_has _ (Some element) = false

abbrev pub value_has : Attribute → Sight → ℕ → Bool → Bool
value_has attribute.Event s t signal = signal
value_has a s t signal = array_has a (element_of (class_of s t))

abbrev pub is_some_attribute : Attribute → Bool
is_some_attribute attribute.Other = false
is_some_attribute _ = true

abbrev pub can_have : Seen → Sight → Attribute → Bool
can_have (seen.Unit k) s a = false
can_have (seen.Mark t) s a = if is_scalar (class_of s t) then scalar_has a t else array_has a (element_of (class_of s t))
can_have (seen.Valued t signal) s a = value_has a s t signal
can_have seen.Ranged s a = false
can_have seen.Awaiting s a = is_some_attribute a
can_have seen.Unknown s a = is_some_attribute a
can_have (seen.Broken rule) s a = true
