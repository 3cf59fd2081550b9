-- The ways of every form of an expression. (IEEE 1076, names; expressions; overload resolution)
-- A state says what is wanted of the trees that stand side by side from a place on. A way says what the first of them gets, which state its
-- parts have, and which state what stands behind it has. A way looks at a node's form and text and at the forms and texts of its parts,
-- and never at what these turn out to be.
use Rattle.std.specs.Prelude.{ℕ, ◌+◌, ◌==◌, Bool, true, false, ◌&&◌, List, [], ◌∷◌, ◌++◌, length, map, position, take, Option, Some, None, slice_get, if◌then◌else◌}
use Rattle.std.specs.List.{filter, filter_map}
use Rattle.std.specs.Option.{option_to_list, unwrap_or}
use Rattle.std.specs.Str.{bytes_eq, str_to_ascii_lowercase}
use Rattle.vd_declarations.specs.declared.classes.Class.{Class}
use Rattle.vd_declarations.specs.declared.classes.Class.TheVariants as class
use Rattle.vd_forest.specs.Forest.{Forest, nothing, more, text_of}
use Rattle.vd_forms.specs.declared.form.Form.{Form}
use Rattle.vd_predefined.specs.declared.numbers.TheConstants.{BOOLEAN, INTEGER, TIME, STRING}
use Rattle.vd_states.specs.declared.states.State.{State}
use Rattle.vd_states.specs.declared.states.State.TheVariants as state
use Rattle.vd_states.specs.declared.states.Want.{Want}
use Rattle.vd_states.specs.declared.states.Want.TheVariants as want
use Rattle.vd_states.specs.declared.states.Prefix.{Prefix}
use Rattle.vd_states.specs.declared.states.Prefix.TheVariants as prefix
use Rattle.vd_states.specs.declared.ways.Way.{Way}
use Rattle.vd_visible.specs.declared.kinds.Kind.{Kind}
use Rattle.vd_visible.specs.declared.kinds.Kind.TheVariants as kind
use Rattle.vd_visible.specs.declared.attributes.Attribute.{Attribute}
use Rattle.vd_visible.specs.declared.attributes.Attribute.TheVariants as attribute
use Rattle.vd_visible.specs.declared.roles.Role.{Role}
use Rattle.vd_visible.specs.declared.roles.Role.TheVariants as role
use Rattle.vd_visible.specs.Kinds.{kind_of, symbol_of, attribute_named, role_of}
use Rattle.vd_visible.specs.Sights.{Sight, class_of, mark_of, name_of, parameters_of}
use Rattle.vd_visible.specs.Types.{is_some_type, is_discrete, is_scalar, index_of, element_of, type_meant, position_in, letter_name, spells, sources}
use Rattle.vd_visible.specs.Lists.{names_in, only_one, simple_name, fits_call, in_brackets, elements_named, choices_type}

-- ---- ways

-- the node gets nothing
abbrev pub plain : State → State → Way
plain inside after = record { declaration = None; mark = None; position = 0; inside = inside; after = after }

-- a type
abbrev pub typed : ℕ → State → State → Way
typed t inside after = record { declaration = None; mark = Some t; position = 0; inside = inside; after = after }

-- a declaration
abbrev pub naming : ℕ → State → State → Way
naming k inside after = record { declaration = Some k; mark = None; position = 0; inside = inside; after = after }

-- a declaration and a type
abbrev pub chosen : ℕ → ℕ → State → State → Way
chosen k t inside after = record { declaration = Some k; mark = Some t; position = 0; inside = inside; after = after }

-- an enumeration literal or a record element
abbrev pub placed : ℕ → Option ℕ → ℕ → State → State → Way
placed k t position inside after = record { declaration = Some k; mark = t; position = position; inside = inside; after = after }

abbrev pub if_true : Bool → Way → Option Way
if_true b way = if b then Some way else None

abbrev pub where_true : Bool → Way → List Way
where_true b way = if b then way ∷ [] else []

-- ---- a node that is wanted as a value of a type

-- a character literal means each visible literal of the type
abbrev pub letter_way : Sight → ℕ → State → ℕ → Option Way
letter_way s t after k =
    elim (class_of s k) [
      | class.EnumerationLiteral ↦ if_true (is_some_type t (mark_of s k)) (placed k (Some t) (position_in t k) state.Done after)
      | _ ↦ None
    ]

abbrev pub text_ways : Sight → ℕ → State → List ℕ → List Way
text_ways s t after text = where_true (spells s (element_of (class_of s t)) text) (typed t state.Done after)

-- an operator is each visible function of its symbol with this result, whose parameters its operands are for
abbrev pub operator_way : Sight → ℕ → State → ℕ → Option Way
operator_way s t after k =
    elim (role_of (class_of s k)) [
      | role.Function ↦ if_true (is_some_type t (mark_of s k)) (chosen k t (state.Arguments k 0) after)
      | _ ↦ None
    ]

abbrev pub value_ways : Kind → Sight → ℕ → State → Form → List ℕ → Forest Form → List Way
value_ways kind.Number s t after form text parts = where_true (t == INTEGER) (typed t state.Done after)
value_ways kind.PhysicalLiteral s t after form text parts = where_true (t == TIME) (typed t state.PhysicalValue after)
value_ways kind.Letter s t after form text parts = filter_map (letter_way s t after) (s.visible (letter_name text))
value_ways kind.Quoted s t after form text parts = text_ways s t after text
value_ways kind.Bits s t after form text parts = text_ways s t after text
value_ways kind.Aggregate s t after form text parts = map (λ inside. typed t inside after) (option_to_list (in_brackets s t parts))
value_ways kind.Name s t after form text parts = typed t (state.Head (want.Value t)) after ∷ []
value_ways kind.OperatorName s t after form text parts = typed t (state.Head (want.Value t)) after ∷ []
value_ways kind.Operator s t after form text parts = filter_map (operator_way s t after) (s.visible (symbol_of form))
value_ways _ s t after form text parts = []

-- ---- a node that is wanted as a range, a choice or a mark

-- both bounds are values of the type
abbrev pub bounds_way : ℕ → State → Way
bounds_way t after = typed t (state.Each (want.Value t)) after

abbrev pub range_ways : Kind → Sight → ℕ → State → List Way
range_ways kind.Bounds s t after = where_true (is_scalar (class_of s t)) (bounds_way t after)
range_ways kind.Name s t after = typed t (state.Head (want.Range t)) after ∷ []
range_ways _ s t after = []

abbrev pub discrete_range_ways : Kind → Sight → ℕ → State → List Way
discrete_range_ways kind.Bounds s t after = where_true (is_discrete (class_of s t)) (bounds_way t after)
discrete_range_ways kind.DiscreteSubtype s t after = where_true (is_discrete (class_of s t)) (typed t (state.ConstrainedMark t) after)
discrete_range_ways kind.Name s t after = typed t (state.Head (want.DiscreteRange t)) after ∷ []
discrete_range_ways _ s t after = []

-- a choice is a value or a discrete range
abbrev pub choice_ways : Kind → Sight → ℕ → State → Form → List ℕ → Forest Form → List Way
choice_ways kind.Name s t after form text parts = typed t (state.Head (want.Choice t)) after ∷ []
choice_ways kind.Bounds s t after form text parts = discrete_range_ways kind.Bounds s t after
choice_ways kind.DiscreteSubtype s t after form text parts = discrete_range_ways kind.DiscreteSubtype s t after
choice_ways k s t after form text parts = value_ways k s t after form text parts

abbrev pub mark_ways : Kind → ℕ → State → List Way
mark_ways kind.Name t after = plain (state.Head (want.Mark t)) after ∷ []
mark_ways _ t after = []

abbrev pub wanted_ways : Want → Sight → State → Form → List ℕ → Forest Form → List Way
wanted_ways (want.Value t) s after form text parts = value_ways (kind_of form) s t after form text parts
wanted_ways (want.Range t) s after form text parts = range_ways (kind_of form) s t after
wanted_ways (want.DiscreteRange t) s after form text parts = discrete_range_ways (kind_of form) s t after
wanted_ways (want.Choice t) s after form text parts = choice_ways (kind_of form) s t after form text parts
wanted_ways (want.Mark t) s after form text parts = mark_ways (kind_of form) t after

-- ---- physical literals

abbrev pub number_ways : Kind → List Way
number_ways kind.Number = typed INTEGER state.Done state.PhysicalUnit ∷ []
number_ways _ = []

-- a unit has to be visible
abbrev pub unit_way : Sight → ℕ → Option Way
unit_way s k = elim (class_of s k) [ class.PhysicalUnit ↦ Some (naming k state.Done state.Done) | _ ↦ None ]

abbrev pub unit_ways : Kind → Sight → List ℕ → List Way
unit_ways kind.Identifier s text = filter_map (unit_way s) (s.visible text)
unit_ways _ s text = []

-- ---- operands, and arguments of calls

-- the parameters of this name
abbrev pub parameters_named : Sight → ℕ → Option (List ℕ) → List ℕ
parameters_named s f None = []
parameters_named s f (Some name) = filter (λ k. bytes_eq (name_of s k) name) (parameters_of s f)

abbrev pub association_way : State → ℕ → Way
association_way behind k = plain (state.Association k) behind

abbrev pub mark_of_some : Sight → Option ℕ → Option ℕ
mark_of_some s None = None
mark_of_some s (Some k) = mark_of s k

-- the type of the one of this index
abbrev pub mark_at : Sight → List ℕ → ℕ → Option ℕ
mark_at s ks index = mark_of_some s (slice_get ks index)

abbrev pub value_ways_in : Option ℕ → Kind → Sight → State → Form → List ℕ → Forest Form → List Way
value_ways_in None k s after form text parts = []
value_ways_in (Some t) k s after form text parts = value_ways k s t after form text parts

-- by position, or by the name of a parameter
abbrev pub argument_ways : Kind → Sight → ℕ → ℕ → Form → List ℕ → Forest Form → List Way
argument_ways kind.Association s f index form text parts = map (association_way (state.Arguments f (index + 1))) (parameters_named s f (only_one (names_in parts)))
argument_ways k s f index form text parts = value_ways_in (mark_at s (parameters_of s f) index) k s (state.Arguments f (index + 1)) form text parts

-- in an association of a call: the name of the parameter, and a value of its type
abbrev pub association_ways : Kind → Sight → ℕ → List Way
association_ways kind.AssociationChoices s parameter =
    map (λ t. plain (state.Formal parameter) (state.Only (want.Value t))) (option_to_list (mark_of s parameter))
association_ways _ s parameter = []

abbrev pub formal_ways : Kind → ℕ → List Way
formal_ways kind.Name parameter = naming parameter state.Leaf state.Done ∷ []
formal_ways _ parameter = []

-- ---- elements of aggregates

-- of an array type, by position, by choices, or for all others
abbrev pub element_ways : Kind → Sight → (array element : ℕ) → Form → List ℕ → Forest Form → List Way
element_ways kind.Association s array element form text parts = plain (state.ElementAssociation array) (state.Elements array) ∷ []
element_ways kind.OthersAssociation s array element form text parts = plain (state.Only (want.Value element)) (state.Elements array) ∷ []
element_ways k s array element form text parts = value_ways k s element (state.Elements array) form text parts

abbrev pub elements_ways : Class → Kind → Sight → ℕ → Form → List ℕ → Forest Form → List Way
elements_ways (class.ArrayType index element mark) k s array form text parts = element_ways k s array element form text parts
elements_ways _ k s array form text parts = []

-- in an association of an array aggregate: choices of the type of its indexes, and a value of that of its elements
abbrev pub choices_way : Class → List Way
choices_way (class.ArrayType index element mark) = plain (state.Each (want.Choice index)) (state.Only (want.Value element)) ∷ []
choices_way _ = []

abbrev pub element_association_ways : Kind → Sight → ℕ → List Way
element_association_ways kind.AssociationChoices s array = choices_way (class_of s array)
element_association_ways _ s array = []

-- of a record type, by position, by the names of elements of one type, or for all others, which are of one type
abbrev pub positional_ways : Option ℕ → Kind → Sight → ℕ → Option ℕ → Form → List ℕ → Forest Form → List Way
positional_ways None k s t others form text parts = []
positional_ways (Some index) k s t others form text parts =
    value_ways_in (mark_at s (parameters_of s t) index) k s (state.Fields t (Some (index + 1)) others) form text parts

abbrev pub field_ways : Kind → Sight → ℕ → Option ℕ → Option ℕ → Form → List ℕ → Forest Form → List Way
field_ways kind.Association s t index others form text parts =
    map (λ u. plain (state.FieldAssociation t u) (state.Fields t None others)) (option_to_list (choices_type s t parts))
field_ways kind.OthersAssociation s t index others form text parts =
    map (λ u. plain (state.Only (want.Value u)) (state.Fields t None others)) (option_to_list others)
field_ways k s t index others form text parts = positional_ways index k s t others form text parts

-- in an association of a record aggregate: names of elements, and a value of their type
abbrev pub field_association_ways : Kind → ℕ → ℕ → List Way
field_association_ways kind.AssociationChoices t u = plain (state.FieldNames t) (state.Only (want.Value u)) ∷ []
field_association_ways _ t u = []

-- the place of an element among those of its record type. A position has 32 bits
abbrev pub position_of : Sight → ℕ → ℕ → ℕ
position_of s t k = unwrap_or (position (λ j. j == k) (take 4294967296 (parameters_of s t))) 0

abbrev pub field_name_way : Sight → ℕ → ℕ → Way
field_name_way s t k = placed k None (position_of s t k) state.Leaf (state.FieldNames t)

abbrev pub fields_named : Sight → ℕ → Option (List ℕ) → List ℕ
fields_named s t None = []
fields_named s t (Some name) = elements_named s t name

abbrev pub field_name_ways : Sight → ℕ → Form → Forest Form → List Way
field_name_ways s t form parts = map (field_name_way s t) (fields_named s t (simple_name form parts))

-- ---- the first piece of a name

-- an operator symbol (34 is the quotation mark)
abbrev pub symbol_name : List ℕ → List ℕ
symbol_name text = 34 ∷ (str_to_ascii_lowercase text ++ 34 ∷ [])

-- what has a value
abbrev pub valued_way : Option ℕ → ℕ → Bool → Want → State → Option Way
valued_way None k signal goal inside = None
valued_way (Some t) k signal goal inside = Some (chosen k t inside (state.Suffixes (prefix.Valued t signal) goal))

abbrev pub literal_way : Option ℕ → ℕ → Want → State → Option Way
literal_way None k goal inside = None
literal_way (Some t) k goal inside = Some (placed k (Some t) (position_in t k) inside (state.Suffixes (prefix.Valued t false) goal))

-- what has none
abbrev pub named_way : ℕ → Want → State → Way
named_way k goal inside = naming k inside (state.Suffixes (prefix.Named k) goal)

-- a function without parameters is called, and any other by the suffix that follows
abbrev pub function_way : Sight → List ℕ → ℕ → Want → State → Option Way
function_way s [] k goal inside = valued_way (mark_of s k) k false goal inside
function_way s (parameter ∷ parameters) k goal inside = Some (named_way k goal inside)

abbrev pub role_way : Role → Sight → ℕ → Want → State → Option Way
role_way role.Unit s k goal inside = Some (named_way k goal inside)
role_way role.Mark s k goal inside = Some (named_way k goal inside)
role_way role.Object s k goal inside = valued_way (mark_of s k) k false goal inside
role_way role.Signal s k goal inside = valued_way (mark_of s k) k true goal inside
role_way role.Literal s k goal inside = literal_way (mark_of s k) k goal inside
role_way role.Function s k goal inside = function_way s (parameters_of s k) k goal inside
role_way role.Other s k goal inside = None

abbrev pub declaration_way : Sight → Want → State → ℕ → Option Way
declaration_way s goal inside k = role_way (role_of (class_of s k)) s k goal inside

abbrev pub head_ways : Kind → Sight → Want → List ℕ → List Way
head_ways kind.Identifier s goal text = filter_map (declaration_way s goal state.Done) (s.visible text)
head_ways kind.Quoted s goal text = filter_map (declaration_way s goal state.Done) (s.visible (symbol_name text))
head_ways _ s goal text = []

-- ---- the suffixes of a name

abbrev pub value_after : ℕ → Want → State
value_after t goal = state.Suffixes (prefix.Valued t false) goal

-- behind a point: an identifier, a character literal or an operator symbol
abbrev pub selected_name : Kind → List ℕ → Option (List ℕ)
selected_name kind.Identifier text = Some text
selected_name kind.Letter text = Some (letter_name text)
selected_name kind.Quoted text = Some (symbol_name text)
selected_name _ text = None

abbrev pub selection_name : Forest Form → Option (List ℕ)
selection_name nothing = None
selection_name (more form text place parts next) = selected_name (kind_of form) text

abbrev pub unit_selection_ways : Role → Sight → ℕ → Want → List ℕ → List Way
unit_selection_ways role.Unit s k goal name = filter_map (declaration_way s goal state.Leaf) (s.selected k name)
unit_selection_ways _ s k goal name = []

abbrev pub field_way_of : Option ℕ → Sight → ℕ → Bool → Want → ℕ → Option Way
field_way_of None s t signal goal k = None
field_way_of (Some u) s t signal goal k = Some (placed k (Some u) (position_of s t k) state.Leaf (state.Suffixes (prefix.Valued u signal) goal))

-- an element of a record value. An element of a signal is one
abbrev pub field_way : Sight → ℕ → Bool → Want → ℕ → Option Way
field_way s t signal goal k = field_way_of (mark_of s k) s t signal goal k

abbrev pub selection_ways : Prefix → Sight → Want → Option (List ℕ) → List Way
selection_ways p s goal None = []
selection_ways (prefix.Named k) s goal (Some name) = unit_selection_ways (role_of (class_of s k)) s k goal name
selection_ways (prefix.Valued t signal) s goal (Some name) = filter_map (field_way s t signal goal) (elements_named s t name)
selection_ways (prefix.Ranged t) s goal (Some name) = []
selection_ways (prefix.Attributed argument result) s goal (Some name) = []

-- in brackets behind a function, its arguments
abbrev pub call_ways : Option ℕ → Sight → ℕ → Want → Forest Form → List Way
call_ways None s f goal parts = []
call_ways (Some t) s f goal parts = where_true (fits_call s (parameters_of s f) parts) (chosen f t (state.Arguments f 0) (value_after t goal))

-- behind a mark, the operand of a conversion, which has any one of the types that can be converted
abbrev pub conversion_way : ℕ → ℕ → Want → ℕ → Way
conversion_way k t goal u = chosen k t (state.Only (want.Value u)) (value_after t goal)

abbrev pub conversion_ways : Option ℕ → Sight → ℕ → Want → List Way
conversion_ways None s k goal = []
conversion_ways (Some t) s k goal = map (conversion_way k t goal) (sources s t)

abbrev pub named_argument_ways : Role → Sight → ℕ → Want → Forest Form → List Way
named_argument_ways role.Function s k goal parts = call_ways (mark_of s k) s k goal parts
named_argument_ways role.Mark s k goal parts = conversion_ways (type_meant s k) s k goal
named_argument_ways _ s k goal parts = []

-- behind an array value, an index or a discrete range: an element or a slice, which are signals where the array is one
abbrev pub element_way : ℕ → ℕ → Bool → Want → Way
element_way index element signal goal = typed element (state.Only (want.Value index)) (state.Suffixes (prefix.Valued element signal) goal)

abbrev pub slice_way : ℕ → ℕ → Bool → Want → Way
slice_way index array signal goal = typed array (state.Only (want.DiscreteRange index)) (state.Suffixes (prefix.Valued array signal) goal)

abbrev pub indexed_ways : Class → ℕ → Bool → Want → List Way
indexed_ways (class.ArrayType index element mark) t signal goal = element_way index element signal goal ∷ slice_way index t signal goal ∷ []
indexed_ways _ t signal goal = []

abbrev pub bracket_ways : Prefix → Sight → Want → Forest Form → List Way
bracket_ways (prefix.Named k) s goal parts = named_argument_ways (role_of (class_of s k)) s k goal parts
bracket_ways (prefix.Valued t signal) s goal parts = indexed_ways (class_of s t) t signal goal
bracket_ways (prefix.Ranged t) s goal parts = []
bracket_ways (prefix.Attributed argument result) s goal parts = typed result (state.Only (want.Value argument)) (value_after result goal) ∷ []

-- attributes of array values and of array types, by the type of their indexes
abbrev pub range_attribute_ways : Option ℕ → State → Want → List Way
range_attribute_ways None inside goal = []
range_attribute_ways (Some index) inside goal = typed index inside (state.Suffixes (prefix.Ranged index) goal) ∷ []

abbrev pub attribute_of_type : ℕ → Want → List Way
attribute_of_type t goal = typed t state.Leaf (value_after t goal) ∷ []

abbrev pub array_attribute_ways : Attribute → Option ℕ → Want → List Way
array_attribute_ways a None goal = []
array_attribute_ways attribute.Bound (Some index) goal = attribute_of_type index goal
array_attribute_ways attribute.Length (Some index) goal = attribute_of_type INTEGER goal
array_attribute_ways attribute.ReverseRange (Some index) goal = range_attribute_ways (Some index) state.Leaf goal
array_attribute_ways _ (Some index) goal = []

-- of scalar types. All but the bounds take an argument by the suffix that follows. TIME has no image
abbrev pub attributed : (argument result : ℕ) → Want → List Way
attributed argument result goal = plain state.Leaf (state.Suffixes (prefix.Attributed argument result) goal) ∷ []

abbrev pub scalar_attribute_ways : Attribute → ℕ → Want → List Way
scalar_attribute_ways attribute.Bound t goal = attribute_of_type t goal
scalar_attribute_ways attribute.Position t goal = attributed t INTEGER goal
scalar_attribute_ways attribute.ValueAt t goal = attributed INTEGER t goal
scalar_attribute_ways attribute.Neighbour t goal = attributed t t goal
scalar_attribute_ways attribute.Image t goal = if t == TIME then [] else attributed t STRING goal
scalar_attribute_ways _ t goal = []

abbrev pub mark_attribute_ways : Option ℕ → Attribute → Sight → Want → List Way
mark_attribute_ways None a s goal = []
mark_attribute_ways (Some t) a s goal =
    if is_scalar (class_of s t) then scalar_attribute_ways a t goal else array_attribute_ways a (index_of (class_of s t)) goal

-- of values: of signals `'event`, and those of arrays
abbrev pub value_attribute_ways : Attribute → Sight → ℕ → Bool → Want → List Way
value_attribute_ways attribute.Event s t signal goal = where_true signal (typed BOOLEAN state.Leaf (value_after BOOLEAN goal))
value_attribute_ways a s t signal goal = array_attribute_ways a (index_of (class_of s t)) goal

abbrev pub attribute_ways : Prefix → Attribute → Sight → Want → List Way
attribute_ways (prefix.Named k) a s goal = mark_attribute_ways (type_meant s k) a s goal
attribute_ways (prefix.Valued t signal) a s goal = value_attribute_ways a s t signal goal
attribute_ways (prefix.Ranged t) a s goal = []
attribute_ways (prefix.Attributed argument result) a s goal = []

abbrev pub index_of_some : Sight → Option ℕ → Option ℕ
index_of_some s None = None
index_of_some s (Some t) = index_of (class_of s t)

-- the type of the indexes of what is an array up to here
abbrev pub prefix_index : Prefix → Sight → Option ℕ
prefix_index (prefix.Named k) s = index_of_some s (type_meant s k)
prefix_index (prefix.Valued t signal) s = index_of (class_of s t)
prefix_index (prefix.Ranged t) s = None
prefix_index (prefix.Attributed argument result) s = None

-- a qualified expression
abbrev pub qualified_ways : Option ℕ → Sight → ℕ → Want → Forest Form → List Way
qualified_ways None s k goal parts = []
qualified_ways (Some t) s k goal parts = map (λ inside. chosen k t inside (value_after t goal)) (option_to_list (in_brackets s t parts))

abbrev pub qualification_ways : Prefix → Sight → Want → Forest Form → List Way
qualification_ways (prefix.Named k) s goal parts = qualified_ways (type_meant s k) s k goal parts
qualification_ways (prefix.Valued t signal) s goal parts = []
qualification_ways (prefix.Ranged t) s goal parts = []
qualification_ways (prefix.Attributed argument result) s goal parts = []

abbrev pub suffix_ways : Kind → Sight → Prefix → Want → Forest Form → List Way
suffix_ways kind.Selection s p goal parts = selection_ways p s goal (selection_name parts)
suffix_ways kind.Arguments s p goal parts = bracket_ways p s goal parts
suffix_ways kind.Attribute s p goal parts = attribute_ways p (attribute_named (text_of parts)) s goal
suffix_ways kind.RangeAttribute s p goal parts = range_attribute_ways (prefix_index p s) state.Done goal
suffix_ways kind.Qualification s p goal parts = qualification_ways p s goal parts
suffix_ways _ s p goal parts = []

-- ---- all ways of a node in a state

-- elements of lists in brackets, and what stands in their associations
abbrev pub listed_ways : Sight → State → Form → List ℕ → Forest Form → List Way
listed_ways s (state.Arguments f index) form text parts = argument_ways (kind_of form) s f index form text parts
listed_ways s (state.Association parameter) form text parts = association_ways (kind_of form) s parameter
listed_ways s (state.Formal parameter) form text parts = formal_ways (kind_of form) parameter
listed_ways s (state.Elements t) form text parts = elements_ways (class_of s t) (kind_of form) s t form text parts
listed_ways s (state.ElementAssociation t) form text parts = element_association_ways (kind_of form) s t
listed_ways s (state.Fields t index others) form text parts = field_ways (kind_of form) s t index others form text parts
listed_ways s (state.FieldAssociation t u) form text parts = field_association_ways (kind_of form) t u
listed_ways s (state.FieldNames t) form text parts = field_name_ways s t form parts
listed_ways s _ form text parts = []

abbrev pub ways : Sight → State → Form → List ℕ → Forest Form → List Way
ways s state.Done form text parts = []
ways s state.Leaf form text parts = plain state.Done state.Done ∷ []
ways s (state.Only w) form text parts = wanted_ways w s state.Done form text parts
ways s (state.Each w) form text parts = wanted_ways w s (state.Each w) form text parts
ways s (state.ConstrainedMark t) form text parts = mark_ways (kind_of form) t (state.Only (want.Range t))
ways s state.PhysicalValue form text parts = number_ways (kind_of form)
ways s state.PhysicalUnit form text parts = unit_ways (kind_of form) s text
ways s (state.Head goal) form text parts = head_ways (kind_of form) s goal text
ways s (state.Suffixes p goal) form text parts = suffix_ways (kind_of form) s p goal parts
ways s other form text parts = listed_ways s other form text parts

-- ---- where a list of trees may end

-- a mark as a discrete range
abbrev pub is_mark_of : Sight → ℕ → ℕ → Bool
is_mark_of s t k = is_some_type t (type_meant s k)

-- a name of a value, of a range, or of a mark, as it is wanted
abbrev pub meets : Sight → Want → Prefix → Bool
meets s (want.Value t) (prefix.Valued u signal) = t == u
meets s (want.Range t) (prefix.Ranged u) = t == u
meets s (want.DiscreteRange t) (prefix.Ranged u) = t == u
meets s (want.DiscreteRange t) (prefix.Named k) = is_discrete (class_of s t) && is_mark_of s t k
meets s (want.Choice t) (prefix.Valued u signal) = t == u
meets s (want.Choice t) (prefix.Ranged u) = t == u
meets s (want.Choice t) (prefix.Named k) = is_discrete (class_of s t) && is_mark_of s t k
meets s (want.Mark t) (prefix.Named k) = is_mark_of s t k
meets s _ _ = false

abbrev pub ends : Sight → State → Bool
ends s state.Done = true
ends s (state.Each w) = true
ends s (state.Arguments f index) = index == length (parameters_of s f)
ends s (state.Elements t) = true
ends s (state.Fields t index others) = true
ends s (state.FieldNames t) = true
ends s (state.Suffixes p goal) = meets s goal p
ends s _ = false
