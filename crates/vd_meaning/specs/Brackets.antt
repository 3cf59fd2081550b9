-- Lists in brackets: arguments of calls, indexes and slices, aggregates. (IEEE 1076, function calls; aggregates; indexed names; slice names.)
use Rattle.std.specs.Prelude.{ℕ, zero, suc, ℤ, pos, Bool, true, false, not, ◌&&◌, List, [], ◌∷◌, ◌++◌, map, filter, Option, Some, None, Ok, if◌then◌else◌}
use Rattle.std.specs.List.{list_any}
use Rattle.vd_values.specs.declared.scalar.Scalar.{Scalar}
use Rattle.vd_composites.specs.declared.ranges.Bounds.{Bounds}
use Rattle.vd_composites.specs.declared.scalars.ScalarSubtype.{ScalarSubtype}
use Rattle.vd_composites.specs.Stops.{◌>>=◌}
use Rattle.vd_composites.specs.Ranges.{index_at}
use Rattle.vd_composites.specs.Composites.{Value, items_of}
use Rattle.vd_composites.specs.Subtypes.{Subtype, Scalars, Arrays, Records, Subtypes, number_of, fit}
use Rattle.vd_composites.specs.Concatenations.{array_on}
use Rattle.vd_composites.specs.Aggregates.{named_bounds, bounds_with_others, first_positions, chosen_indexes, other_indexes, array_from, record_from}
use Rattle.vd_resolved.specs.declared.node.Resolved.{Resolved}
use Rattle.vd_environments.specs.Got.{Got, got, senseless, all_got}
use Rattle.vd_environments.specs.Environments.{Signals, Static, always, both, all_static, only_global, Argument, Env, or_senseless, unknown}
use Rattle.vd_meaning.specs.Tables.{Table, Role, FunctionRole, MarkRole, role_of, same_type, followed, is_predefined, is_vector}
use Rattle.vd_meaning.specs.Operators.{Operation, Edge, operation, edge, marked}
use Rattle.vd_meaning.specs.Names.{Named, Callee, NoCallee, Attributed, fresh, call, qualified, conversion_of, stepped, to_element, to_slice, type_attribute_value, number_or, and_read, bounds_of_subtype, nth_subtype, position_in}
use Rattle.vd_meaning.specs.Facets.{Meaning, nth, value_of, known_of, reads_of, Association, Positional, ByChoices, ForOthers, Choice}

-- ---- choices

-- the range that a choice stands for: a range itself, or from a value to itself
abbrev pub choice_bounds : Option (Env → Got Bounds) → (Env → Got (Value Scalar)) → Env → Got Bounds
choice_bounds (Some range) value e = range e
choice_bounds None value e = value e >>= position_in >>= λ i. Ok (record { left = i; right = i; down = false })

abbrev pub choice_of : Meaning → Choice
choice_of m = record { named = m.declaration; position = m.position; bounds = choice_bounds m.range (value_of m) }

-- A choice with a type is an expression or a range. One without names a field, a parameter or a port, or is `others`, and makes nothing less static.
abbrev pub choice_known : Option ℕ → (Env → Static) → Env → Static
choice_known None known e = always
choice_known (Some mark) known e = known e

abbrev pub choices_known : List Meaning → Env → Static
choices_known ms e = all_static (map (λ m. choice_known m.mark m.known e) ms)

abbrev pub ranges_of : List Choice → Env → Got (List Bounds)
ranges_of cs e = all_got (map (λ c. c.bounds e) cs)

-- ---- arguments

abbrev pub names_it : ℕ → Choice → Bool
names_it p c = same_type c.named (Some p)

-- the element that names a parameter
abbrev pub named_argument : ℕ → List Meaning → Option Meaning
named_argument p [] = None
named_argument p (m ∷ ms) = if list_any (names_it p) m.choices then Some m else named_argument p ms

abbrev pub is_positional : Association → Bool
is_positional Positional = true
is_positional _ = false

abbrev pub nth_positional : ℕ → List Meaning → Option Meaning
nth_positional n [] = None
nth_positional zero (m ∷ ms) = if is_positional m.association then Some m else None
nth_positional (suc n) (m ∷ ms) = if is_positional m.association then nth_positional n ms else None

abbrev pub or_else : {A : Type 0} → Option A → Option A → Option A
or_else None other = other
or_else (Some x) other = Some x

abbrev pub argument_in : Option Meaning → Env → Argument
argument_in None e known = senseless
argument_in (Some m) e known = m.value known e

-- the arguments in the order of the parameters, of which the next one has this number
abbrev pub arguments_for : ℕ → List ℕ → List Meaning → Env → List Argument
arguments_for k [] ms e = []
arguments_for k (p ∷ ps) ms e = argument_in (or_else (named_argument p ms) (nth_positional k ms)) e ∷ arguments_for (suc k) ps ms e

-- ---- what a list in brackets is behind a name

abbrev pub argument_read : Named → List Meaning → Env → Got (List Signals)
argument_read p ms e = and_read (p.inner e) (reads_of ms e)

-- a call, of which rising_edge and falling_edge look at a signal
abbrev pub called_with : Operation → Table → ℕ → Resolved → List Meaning → Named → Named
called_with (Edge rising) t d n ms p =
    fresh (λ e. (nth 0 ms).name.signals e >>= edge rising e.view) n.mark (λ _. Rattle.vd_environments.specs.Environments.never) (argument_read p ms)
called_with _ t d n ms p = call t d (arguments_for 0 (t.declared d).parameters ms) n.mark (known_of ms) (argument_read p ms)

abbrev pub operation_called : Table → ℕ → Operation
operation_called t d = if is_predefined t d then operation t d else Rattle.vd_meaning.specs.Operators.NoOperation

-- a range in brackets is a slice, and a value an element
abbrev pub element_or_slice : Option (Env → Got Bounds) → Resolved → List Meaning → Named → Named
element_or_slice (Some range) n ms p = stepped (to_slice range (nth 0 ms).known (nth 0 ms).reads) n.mark p
element_or_slice None n ms p = stepped (to_element (value_of (nth 0 ms)) (nth 0 ms).known (nth 0 ms).reads) n.mark p

-- whether both the mark and the type of the operand are vector types
abbrev pub is_between_vectors : (mark operand : Option ℕ) → Bool
is_between_vectors mark operand = is_vector (number_or mark) && is_vector (number_or operand)

abbrev pub by_role : Role → Table → Resolved → List Meaning → Named → Named
by_role FunctionRole t n ms p =
    called_with (operation_called t (followed t (number_or n.declaration))) t (followed t (number_or n.declaration)) n ms p
by_role MarkRole t n ms p =
    conversion_of (is_between_vectors n.declaration (nth 0 ms).mark) (number_or n.declaration) n.mark (value_of (nth 0 ms)) (nth 0 ms).known (argument_read p ms)
    (nth 0 ms).name
by_role _ t n ms p = element_or_slice (nth 0 ms).range n ms p

abbrev pub by_callee : Callee → Table → Resolved → List Meaning → Named → Named
by_callee (Attributed attribute) t n ms p =
    fresh (type_attribute_value attribute p (value_of (nth 0 ms))) n.mark (λ e. both (p.known e) ((nth 0 ms).known e)) (argument_read p ms)
by_callee NoCallee t n ms p = by_role (role_of t n.declaration) t n ms p

abbrev pub arguments_piece : Table → Resolved → List Meaning → Named → Named
arguments_piece t n ms p = by_callee p.callee t n ms p

-- ---- aggregates. Each association evaluates its expression once for each element that it stands for, in the order of the text and of its
-- choices, and each value is made one of the element subtype at once.

-- a value for each of some indexes or fields
abbrev pub for_each : (ℤ → Got Subtype) → Meaning → Env → List ℤ → Got (List (ℤ × Value Scalar))
for_each subtype m e [] = Ok []
for_each subtype m e (i ∷ is) =
    subtype i >>= λ s. m.value (Ok s) e >>= λ v. got (fit s v) >>= λ w. for_each subtype m e is >>= λ rest. Ok ((i, w) ∷ rest)

abbrev pub is_for_others : Association → Bool
is_for_others ForOthers = true
is_for_others _ = false

abbrev pub has_choices : Association → Bool
has_choices ByChoices = true
has_choices _ = false

-- how many elements have no choices
abbrev pub positional_count : List Meaning → ℕ
positional_count [] = 0
positional_count (m ∷ ms) = if is_positional m.association then suc (positional_count ms) else positional_count ms

-- the ranges of all choices, in the order of the text
abbrev pub all_ranges : List Meaning → Env → Got (List Bounds)
all_ranges [] e = Ok []
all_ranges (m ∷ ms) e = ranges_of m.choices e >>= λ cs. all_ranges ms e >>= λ rest. Ok (cs ++ rest)

-- and that of the positions in front of `others`
abbrev pub with_positions : Bounds → ℕ → List Bounds → List Bounds
with_positions b zero cs = cs
with_positions b (suc n) cs = first_positions b (suc n) ∷ cs

-- the indexes of an association, where so many positions are in front of it and all choices are these
abbrev pub indexes_of : Association → Bounds → ℕ → List Bounds → List Choice → Env → Got (List ℤ)
indexes_of Positional b k all cs e = Ok (index_at b k ∷ [])
indexes_of ByChoices b k all cs e = ranges_of cs e >>= λ rs. Ok (chosen_indexes rs)
indexes_of ForOthers b k all cs e = Ok (other_indexes b all)

abbrev pub array_pairs : Subtype → Bounds → ℕ → List Bounds → List Meaning → Env → Got (List (ℤ × Value Scalar))
array_pairs element b k all [] e = Ok []
array_pairs element b k all (m ∷ ms) e =
    indexes_of m.association b k all m.choices e >>= for_each (λ _. Ok element) m e >>= λ ps.
    array_pairs element b (if is_positional m.association then suc k else k) all ms e >>= λ rest. Ok (ps ++ rest)

abbrev pub array_of_pairs : Subtype → Bounds → List Bounds → List Meaning → Env → Got (Value Scalar)
array_of_pairs element b all ms e = array_pairs element b 0 all ms e >>= λ ps. got (array_from b ps)

-- with `others`: the place gives the bounds
abbrev pub array_with_others : Subtype → Got Bounds → List Meaning → Env → Got (Value Scalar)
array_with_others element known ms e =
    known >>= λ b. all_ranges ms e >>= λ cs. got (bounds_with_others b (with_positions b (positional_count ms) cs)) >>= λ c.
    array_of_pairs element c (with_positions b (positional_count ms) cs) ms e

-- with choices alone: they give the bounds, in the direction of the subtype that is known
abbrev pub array_with_choices : ScalarSubtype → Subtype → Bool → List Meaning → Env → Got (Value Scalar)
array_with_choices index element down ms e =
    all_ranges ms e >>= λ cs. got (named_bounds index down cs) >>= λ b. array_of_pairs element b cs ms e

abbrev pub each_element : Subtype → List Meaning → Env → Got (List (Value Scalar))
each_element element [] e = Ok []
each_element element (m ∷ ms) e =
    m.value (Ok element) e >>= λ v. got (fit element v) >>= λ w. each_element element ms e >>= λ ws. Ok (w ∷ ws)

-- with positions alone: it begins at the left bound of the index subtype
abbrev pub array_with_positions : ScalarSubtype → Subtype → List Meaning → Env → Got (Value Scalar)
array_with_positions index element ms e = each_element element ms e >>= λ vs. got (array_on index (items_of vs))

-- the direction of the bounds that the place gives, or else those of a constrained array type itself; ascending without any
abbrev pub down_of : Option Bounds → Bool
down_of None = false
down_of (Some b) = b.down

abbrev pub known_direction : Got Subtype → Option Bounds → Bool
known_direction (Ok (Arrays index (Some b) element)) own = b.down
known_direction _ own = down_of own

abbrev pub array_aggregate : ScalarSubtype → Option Bounds → Subtype → Got Subtype → List Meaning → Env → Got (Value Scalar)
array_aggregate index own element known ms e =
    if list_any (λ m. is_for_others m.association) ms then array_with_others element (known >>= bounds_of_subtype) ms e
    else (if list_any (λ m. has_choices m.association) ms then array_with_choices index element (known_direction known own) ms e
    else array_with_positions index element ms e)

-- ---- records: fields by their positions

abbrev pub positions_of : List Choice → List ℤ
positions_of cs = map (λ c. pos c.position) cs

-- the fields of an association, where so many positions are in front of it, and these are left for `others`
abbrev pub fields_of : Association → ℕ → List ℤ → List Choice → List ℤ
fields_of Positional k left cs = pos k ∷ []
fields_of ByChoices k left cs = positions_of cs
fields_of ForOthers k left cs = left

abbrev pub named_fields : ℕ → List Meaning → List ℤ
named_fields k [] = []
named_fields k (m ∷ ms) =
    fields_of m.association k [] m.choices ++ named_fields (if is_positional m.association then suc k else k) ms

abbrev pub fields_left : ℕ → List Meaning → List ℤ
fields_left n ms =
    filter (λ i. not (list_any (λ j. Rattle.std.specs.Ordering.int_eq i j) (named_fields 0 ms))) (Rattle.vd_composites.specs.Aggregates.numbers_from 0 n)

abbrev pub field_at : Subtypes → ℤ → Got Subtype
field_at fields (pos n) = nth_subtype n fields
field_at fields _ = senseless

abbrev pub record_pairs : Subtypes → ℕ → List ℤ → List Meaning → Env → Got (List (ℤ × Value Scalar))
record_pairs fields k left [] e = Ok []
record_pairs fields k left (m ∷ ms) e =
    for_each (field_at fields) m e (fields_of m.association k left m.choices) >>= λ ps.
    record_pairs fields (if is_positional m.association then suc k else k) left ms e >>= λ rest. Ok (ps ++ rest)

abbrev pub record_aggregate : Subtypes → List Meaning → Env → Got (Value Scalar)
record_aggregate fields ms e =
    record_pairs fields 0 (fields_left (number_of fields) ms) ms e >>= λ ps. got (record_from (number_of fields) ps)

-- ---- aggregates, and expressions in brackets

abbrev pub aggregate_of : Subtype → Got Subtype → List Meaning → Env → Got (Value Scalar)
aggregate_of (Arrays index own element) known ms e = array_aggregate index own element known ms e
aggregate_of (Records fields) known ms e = record_aggregate fields ms e
aggregate_of (Scalars s) known ms e = senseless

abbrev pub aggregate : Option ℕ → List Meaning → Got Subtype → Env → Got (Value Scalar)
aggregate mark ms known e = marked mark e >>= λ s. aggregate_of s known ms e

-- one positional element alone is an expression in brackets
abbrev pub bracketed_value : Option ℕ → List Meaning → Got Subtype → Env → Got (Value Scalar)
bracketed_value mark (m ∷ []) = if is_positional m.association then m.value else aggregate mark (m ∷ [])
bracketed_value mark ms = aggregate mark ms

abbrev pub bracketed_known : List Meaning → Env → Static
bracketed_known (m ∷ []) e = if is_positional m.association then m.known e else only_global (m.known e)
bracketed_known ms e = only_global (known_of ms e)

-- a qualified expression: the mark gives the subtype
abbrev pub qualification_piece : Table → Resolved → List Meaning → Named → Named
qualification_piece t n ms p =
    qualified (number_or n.declaration) n.mark (λ e. bracketed_value n.mark ms (Ok (e.denotes (number_or n.declaration)).subtype) e) (bracketed_known ms) (argument_read p ms)
