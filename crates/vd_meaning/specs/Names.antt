-- Names, piece by piece. (IEEE 1076, names: simple, selected, indexed, slice and attribute names; function calls; type conversions; qualified
-- expressions.) A name is a first identifier and then pieces behind it. What it stands for up to one of them is made of what it stands for up
-- to the one before.
use Rattle.std.specs.Prelude.{ℕ, zero, suc, ℤ, Bool, true, false, ◌&&◌, ◌||◌, List, [], ◌∷◌, ◌++◌, Option, Some, None, Ok, Err, is_some, slice_get, bytes_eq, codes, if◌then◌else◌}
use Rattle.std.specs.List.{list_any}
use Rattle.vd_values.specs.declared.scalar.Scalar.{Scalar}
use Rattle.vd_values.specs.declared.scalar.Scalar.TheVariants.{Literal}
use Rattle.vd_values.specs.declared.scalar.StopKind.TheVariants.{Index}
use Rattle.vd_composites.specs.declared.ranges.Bounds.{Bounds}
use Rattle.vd_composites.specs.declared.scalars.ScalarType.{ScalarType}
use Rattle.vd_composites.specs.declared.scalars.ScalarSubtype.{ScalarSubtype}
use Rattle.vd_composites.specs.Stops.{◌>>=◌}
use Rattle.vd_composites.specs.Scalars.{position_of}
use Rattle.vd_composites.specs.Composites.{Value, One, Array, Items, none, item, bounds_of, scalar_of, leaves}
use Rattle.vd_composites.specs.Parts.{Step, AtIndex, AtSlice, AtField, part, reached, is_slice}
use Rattle.vd_composites.specs.Subtypes.{Subtype, Scalars, Arrays, Records, Subtypes, no_more, and_more}
use Rattle.vd_subtypes.specs.Heads.{head_of}
use Rattle.vd_vectors.specs.Logics.{truth}
use Rattle.vd_operators.specs.declared.attributes.Side.{Side}
use Rattle.vd_operators.specs.declared.attributes.Side.TheVariants.{LeftSide, RightSide, HighSide, LowSide}
use Rattle.vd_operators.specs.declared.attributes.DiscreteAttribute.TheVariants as discrete
use Rattle.vd_operators.specs.declared.op.Op.TheVariants.{SubtypeBound, Unary}
use Rattle.vd_operators.specs.declared.op.UnaryOp.TheVariants as one
use Rattle.vd_operators.specs.Applied.{applied}
use Rattle.vd_operators.specs.Attributes.{array_range}
use Rattle.vd_operators.specs.Texts.{text}
use Rattle.vd_resolved.specs.declared.node.Resolved.{Resolved}
use Rattle.vd_environments.specs.Got.{Got, got, stop, senseless, is_got}
use Rattle.vd_environments.specs.Environments.{Signals, read, Static, always, never, both, only_global, is_static, Make, sliced_make, no_make, own_bounds, element_make, field_make, all_bounds, literals_of, Argument, Env, Place, further, or_senseless}
use Rattle.vd_meaning.specs.Tables.{Table, Role, ConstantRole, VariableRole, SignalRole, LiteralRole, FunctionRole, MarkRole, ElementRole, NoRole, role_of, same_type, followed, is_vector}
use Rattle.vd_meaning.specs.Operators.{function_of, literal_of, marked, is_local_operator}

-- ---- what a name stands for

-- attributes of a type with an argument, which the next piece has
pub data TypeAttribute : Type 0 where
  PositionOf : TypeAttribute
  ValueOf : TypeAttribute
  SuccessorOf : TypeAttribute
  PredecessorOf : TypeAttribute
  ImageOf : TypeAttribute

-- what a next piece calls
pub data Callee : Type 0 where
  NoCallee : Callee
  Attributed : (attribute : TypeAttribute) → Callee

-- What a name stands for up to one of its pieces. What it isn't stops.
pub record Named : Type 0 where
  pub value : Env → Got (Value Scalar)
  -- of a variable or a part of one
  pub place : Env → Got Place
  -- of a signal or a part of one
  pub signals : Env → Got Signals
  -- where it stands for a range
  pub range : Option (Env → Got Bounds)
  -- of an array: its bounds
  pub shape : Env → Got Bounds
  -- of a type or subtype itself; of an object or a part of one the subtype that is known of it
  pub subtype : Env → Got Subtype
  pub make : Env → Make
  -- whether it is an object, a type or a part of one; and whether each slice in it has a locally static range, so that what is known of its subtype
  -- and its bounds hangs on nothing else
  pub is_object : Bool
  pub local_slices : Env → Bool
  pub is_mark : Bool
  -- the type of its value
  pub mark : Option ℕ
  pub callee : Callee
  pub known : Env → Static
  -- of a signal its longest static prefix, and whether that is the whole name
  pub prefix : Option (Env → Got Signals)
  pub is_whole : Env → Bool
  -- what is read in its indexes and arguments
  pub inner : Env → Got (List Signals)

abbrev pub no_name : Named
no_name =
    record {
      value = λ _. senseless;
      place = λ _. senseless;
      signals = λ _. senseless;
      range = None;
      shape = λ _. senseless;
      subtype = λ _. senseless;
      make = λ _. no_make;
      is_object = false;
      local_slices = λ _. true;
      is_mark = false;
      mark = None;
      callee = NoCallee;
      known = λ _. never;
      prefix = None;
      is_whole = λ _. false;
      inner = λ _. Ok [];
    }

-- ---- helpers

abbrev pub shape_of_value : {L : Type 0} → Value L → Got Bounds
shape_of_value v = or_senseless (bounds_of v)

abbrev pub position_in : Value Scalar → Got ℤ
position_in v = or_senseless (scalar_of v) >>= λ x. Ok (position_of x)

abbrev pub scalars_of : Subtype → Got ScalarSubtype
scalars_of (Scalars s) = Ok s
scalars_of _ = senseless

abbrev pub bounds_of_subtype : Subtype → Got Bounds
bounds_of_subtype (Arrays index bounds element) = or_senseless bounds
bounds_of_subtype _ = senseless

abbrev pub range_of_subtype : Subtype → Got Bounds
range_of_subtype s = scalars_of s >>= λ x. Ok x.range

abbrev pub element_of_subtype : Subtype → Got Subtype
element_of_subtype (Arrays index bounds element) = Ok element
element_of_subtype _ = senseless

abbrev pub sliced_subtype : Bounds → Subtype → Got Subtype
sliced_subtype b (Arrays index bounds element) = Ok (Arrays index (Some b) element)
sliced_subtype b _ = senseless

abbrev pub nth_subtype : ℕ → Subtypes → Got Subtype
nth_subtype n no_more = senseless
nth_subtype zero (and_more s ss) = Ok s
nth_subtype (suc n) (and_more s ss) = nth_subtype n ss

abbrev pub field_subtype : ℕ → Subtype → Got Subtype
field_subtype n (Records fields) = nth_subtype n fields
field_subtype n _ = senseless

-- the scalar type of a discrete type
abbrev pub scalar_type : Option ℕ → Env → Got ScalarType
scalar_type mark e = marked mark e >>= scalars_of >>= λ s. Ok s.of_type

-- An expression whose evaluation stops is not locally static.
abbrev pub unless_stopped : {A : Type 0} → Got A → Static → Static
unless_stopped g s = record s { is_local = s.is_local && is_got g }

-- ---- readings

-- one list behind another
abbrev pub and_read : Got (List Signals) → Got (List Signals) → Got (List Signals)
and_read f g = f >>= λ xs. g >>= λ ys. Ok (xs ++ ys)

abbrev pub all_read : List (Env → Got (List Signals)) → Env → Got (List Signals)
all_read [] e = Ok []
all_read (f ∷ fs) e = and_read (f e) (all_read fs e)

abbrev pub prefix_read : Option (Env → Got Signals) → Env → Got (List Signals)
prefix_read None e = Ok []
prefix_read (Some prefix) e = prefix e >>= λ s. Ok (s ∷ [])

-- the longest static prefix of a name that occurs as a value, and what is read in it
abbrev pub name_read : Named → Env → Got (List Signals)
name_read p e = and_read (prefix_read p.prefix e) (p.inner e)

abbrev pub is_out : Signals → Bool
is_out s = list_any (λ x. x.is_out) (leaves s)

-- a port of mode `out`, as the prefix of an attribute, counts under 'event alone
abbrev pub unless_out : List Signals → List Signals
unless_out [] = []
unless_out (s ∷ ss) = if is_out s then unless_out ss else s ∷ unless_out ss

abbrev pub attribute_read : Bool → Named → Env → Got (List Signals)
attribute_read of_event p e =
    and_read (prefix_read p.prefix e >>= λ xs. Ok (if of_event then xs else unless_out xs)) (p.inner e)

-- ---- first pieces, and selected names of declarations

abbrev pub constant : ℕ → Option ℕ → Named
constant d mark =
    record no_name {
      value = λ e. Ok (e.denotes d).value;
      shape = λ e. shape_of_value (e.denotes d).value;
      subtype = λ e. Ok (e.denotes d).subtype;
      make = λ e. (e.denotes d).make;
      is_object = true;
      mark = mark;
      known = λ e. (e.denotes d).known;
    }

abbrev pub variable : ℕ → Option ℕ → Named
variable d mark = record (constant d mark) { place = λ _. Ok (record { object = d; steps = [] }) }

abbrev pub signal : ℕ → Option ℕ → Named
signal d mark =
    record no_name {
      value = λ e. or_senseless (e.denotes d).signals >>= read e.view;
      signals = λ e. or_senseless (e.denotes d).signals;
      shape = λ e. or_senseless (e.denotes d).signals >>= shape_of_value;
      subtype = λ e. Ok (e.denotes d).subtype;
      make = λ e. (e.denotes d).make;
      is_object = true;
      mark = mark;
      prefix = Some (λ e. or_senseless (e.denotes d).signals);
      is_whole = λ _. true;
    }

-- a literal of an enumeration type, which is known wherever the type is
abbrev pub literal_known : Option ℕ → Env → Static
literal_known None e = never
literal_known (Some d) e = own_bounds (e.denotes d).make

abbrev pub literal : ℕ → Option ℕ → Named
literal position mark = record no_name { value = λ _. Ok (One (Literal position)); mark = mark; known = literal_known mark }

-- a type or subtype; where it is of scalars it may stand for its range, and where it is a constrained array it has bounds
abbrev pub mark_of : ℕ → Option ℕ → Named
mark_of d mark =
    record no_name {
      range = Some (λ e. range_of_subtype (e.denotes d).subtype);
      shape = λ e. bounds_of_subtype (e.denotes d).subtype;
      subtype = λ e. Ok (e.denotes d).subtype;
      make = λ e. (e.denotes d).make;
      is_object = true;
      is_mark = true;
      mark = mark;
      known = λ e. own_bounds (e.denotes d).make;
    }

-- ---- calls

-- A value of its own, which is no part of an object.
abbrev pub fresh : (Env → Got (Value Scalar)) → Option ℕ → (Env → Static) → (Env → Got (List Signals)) → Named
fresh value mark known inner =
    record no_name {
      value = value;
      shape = λ e. value e >>= shape_of_value;
      mark = mark;
      known = λ e. unless_stopped (value e) (known e);
      inner = inner;
    }

-- How static calls of a function can be: of an operator by the language; what is written outside of processes and functions is known in elaboration.
abbrev pub calls_known : Table → ℕ → Env → Static
calls_known t n e =
    if is_local_operator t n then always else (if Rattle.vd_meaning.specs.Tables.is_predefined t n then only_global always else (e.denotes n).known)

abbrev pub call_known : Table → ℕ → Static → Env → Static
call_known t n s e = both (calls_known t n e) s

abbrev pub call : Table → ℕ → (Env → List Argument) → Option ℕ → (Env → Static) → (Env → Got (List Signals)) → Named
call t n arguments mark known inner =
    fresh (λ e. function_of t n e (arguments e)) mark (λ e. call_known t n (known e) e) inner

-- a function whose name has a type is called where it stands; another one is called by the next piece
abbrev pub called_here : Table → ℕ → Option ℕ → Named
called_here t n None = no_name
called_here t n (Some mark) = call t (followed t n) (λ _. []) (Some mark) (λ _. always) (λ _. Ok [])

abbrev pub standing : Table → Role → ℕ → Resolved → Named
standing t ConstantRole d n = constant d n.mark
standing t VariableRole d n = variable d n.mark
standing t SignalRole d n = signal d n.mark
standing t LiteralRole d n = literal n.position n.mark
standing t FunctionRole d n = called_here t d n.mark
standing t MarkRole d n = mark_of d n.mark
standing t ElementRole d n = no_name
standing t NoRole d n = no_name

abbrev pub number_or : Option ℕ → ℕ
number_or None = 0
number_or (Some n) = n

-- what the declaration of a first piece stands for
abbrev pub first_piece : Table → Resolved → Named
first_piece t n = standing t (role_of t n.declaration) (number_or n.declaration) n

-- ---- parts of objects and values

-- A step from a name to a part of what it stands for: the step, how static it is, what it reads; of the part the subtype and what it is made of; of a
-- slice whether its range is locally static; and of the part its bounds by those of the whole and its subtype.
pub record Stepping : Type 0 where
  pub to : Env → Got Step
  pub known : Env → Static
  pub inner : Env → Got (List Signals)
  pub subtype : Env → Subtype → Got Subtype
  pub make : Env → Make → Make
  pub local_slices : Env → Bool
  pub shape : Env → Got Bounds → Subtype → Got Bounds

abbrev pub part_value : Option (Env → Got Signals) → (Env → Got Signals) → (Env → Got (Value Scalar)) → Env → Got (Value Scalar)
part_value None signals value e = value e
part_value (Some prefix) signals value e = signals e >>= read e.view

-- The bounds of an element or a field of an object are those of its subtype, whatever the index is, and so they are static where the subtype is. A
-- part of another value has those of the value.
abbrev pub shape_behind : Got Subtype → Stepping → Got Bounds → (Env → Got (Value Scalar)) → Env → Got Bounds
shape_behind (Ok s) step whole value e = step.shape e whole s
shape_behind (Err halt) step whole value e = value e >>= shape_of_value

abbrev pub part_signals : Named → Stepping → Env → Got Signals
part_signals p s e = p.signals e >>= λ v. s.to e >>= λ to. got (part to v)

abbrev pub part_of_value : Named → Stepping → Env → Got (Value Scalar)
part_of_value p s e = p.value e >>= λ v. s.to e >>= λ to. got (part to v)

-- the longest static prefix goes on where all before it and the step are static
abbrev pub goes_on : Named → Stepping → Env → Bool
goes_on p s e = p.is_whole e && is_static (s.known e)

abbrev pub part_prefix : Named → Stepping → Option (Env → Got Signals) → Option (Env → Got Signals)
part_prefix p s None = None
part_prefix p s (Some prefix) = Some (λ e. prefix e >>= λ v. if goes_on p s e then (s.to e >>= λ to. got (part to v)) else Ok v)

-- a part of a signal is one, and a part of another name none
abbrev pub where_signal : {A : Type 0} → Option (Env → Got Signals) → A → A → A
where_signal None other part = other
where_signal (Some prefix) other part = part

-- a part of a variable, which is there
abbrev pub part_place : Env → Place → Got Place
part_place e p = got (reached p.steps (e.denotes p.object).value) >>= λ v. Ok p

abbrev pub stepped : Stepping → Option ℕ → Named → Named
stepped s mark p =
    record no_name {
      value = part_value p.prefix (part_signals p s) (part_of_value p s);
      place = λ e. p.place e >>= λ at. s.to e >>= λ to. part_place e (further to at);
      signals = where_signal p.prefix (λ _. senseless) (part_signals p s);
      shape = λ e. shape_behind (p.subtype e) s (p.shape e) (part_of_value p s) e;
      subtype = λ e. p.subtype e >>= s.subtype e;
      make = λ e. s.make e (p.make e);
      is_object = p.is_object;
      local_slices = λ e. p.local_slices e && s.local_slices e;
      mark = mark;
      known = λ e. only_global (both (p.known e) (s.known e));
      prefix = part_prefix p s p.prefix;
      is_whole = where_signal p.prefix (λ _. false) (goes_on p s);
      inner = λ e. and_read (p.inner e) (s.inner e);
    }

abbrev pub to_field : ℕ → Stepping
to_field n =
    record {
      to = λ _. Ok (AtField n);
      known = λ _. always;
      inner = λ _. Ok [];
      subtype = λ _ s. field_subtype n s;
      make = λ _ m. field_make n m;
      local_slices = λ _. true;
      shape = λ _ _ s. field_subtype n s >>= bounds_of_subtype;
    }

-- to an element, by an index with a value
abbrev pub to_element : (Env → Got (Value Scalar)) → (Env → Static) → (Env → Got (List Signals)) → Stepping
to_element index known inner =
    record {
      to = λ e. index e >>= position_in >>= λ i. Ok (AtIndex i);
      known = known;
      inner = inner;
      subtype = λ _ s. element_of_subtype s;
      make = λ _ m. element_make m;
      local_slices = λ _. true;
      shape = λ _ _ s. element_of_subtype s >>= bounds_of_subtype;
    }

-- a slice goes in the direction of the whole, and one that isn't null lies within it
abbrev pub sliced_bounds : Bounds → Bounds → Got Bounds
sliced_bounds whole b = if is_slice whole b then Ok b else stop Index

abbrev pub to_slice : (Env → Got Bounds) → (Env → Static) → (Env → Got (List Signals)) → Stepping
to_slice range known inner =
    record {
      to = λ e. range e >>= λ b. Ok (AtSlice b);
      known = known;
      inner = inner;
      subtype = λ e s. range e >>= λ b. sliced_subtype b s;
      make = λ e m. sliced_make (known e) m;
      local_slices = λ e. (known e).is_local;
      shape = λ e whole _. whole >>= λ w. range e >>= sliced_bounds w;
    }

-- ---- attributes

pub data Attribute : Type 0 where
  BoundAt : (side : Side) → Attribute
  LengthOf : Attribute
  RangeOf : (backwards : Bool) → Attribute
  EventOf : Attribute
  OfType : (attribute : TypeAttribute) → Attribute
  NoAttribute : Attribute

abbrev pub attributes : List (List ℕ × Attribute)
attributes =
    (codes "left", BoundAt LeftSide) ∷ (codes "right", BoundAt RightSide) ∷ (codes "high", BoundAt HighSide) ∷ (codes "low", BoundAt LowSide)
    ∷ (codes "length", LengthOf) ∷ (codes "range", RangeOf false) ∷ (codes "reverse_range", RangeOf true) ∷ (codes "event", EventOf)
    ∷ (codes "pos", OfType PositionOf) ∷ (codes "val", OfType ValueOf) ∷ (codes "succ", OfType SuccessorOf) ∷ (codes "pred", OfType PredecessorOf)
    ∷ (codes "image", OfType ImageOf) ∷ []

abbrev pub attribute_in : List (List ℕ × Attribute) → List ℕ → Attribute
attribute_in [] name = NoAttribute
attribute_in (a ∷ as') name = if bytes_eq a.0 name then a.1 else attribute_in as' name

abbrev pub attribute_named : List ℕ → Attribute
attribute_named name = attribute_in attributes name

-- an array of these bounds, as its attributes see it
abbrev pub bare : Bounds → Value Scalar
bare b = Array b none

-- of a scalar subtype its own bounds, of an array those of its index
abbrev pub bound_of_mark : Side → Option ℕ → Env → Named → Subtype → Got (Value Scalar)
bound_of_mark side index e p (Scalars s) = got (applied (SubtypeBound side s) [])
bound_of_mark side index e p _ = p.shape e >>= λ b. scalar_type index e >>= λ t. got (applied (Unary (one.ArrayBound side t)) (bare b ∷ []))

abbrev pub bound_of_array : Side → Option ℕ → Env → Named → Got (Value Scalar)
bound_of_array side index e p = p.shape e >>= λ b. scalar_type index e >>= λ t. got (applied (Unary (one.ArrayBound side t)) (bare b ∷ []))

abbrev pub bound_value : Side → Option ℕ → Named → Env → Got (Value Scalar)
bound_value side index p e = if p.is_mark then (p.subtype e >>= bound_of_mark side index e p) else bound_of_array side index e p

abbrev pub length_value : Named → Env → Got (Value Scalar)
length_value p e = p.shape e >>= λ b. got (applied (Unary one.ArrayLength) (bare b ∷ []))

abbrev pub range_value : Bool → Option ℕ → Named → Env → Got Bounds
range_value backwards index p e = p.shape e >>= λ b. scalar_type index e >>= λ t. got (array_range backwards t (bare b))

-- an event on one of the scalar signals
abbrev pub event_value : Named → Env → Got (Value Scalar)
event_value p e = p.signals e >>= λ s. Ok (truth (list_any (λ x. is_some (e.view.before x.number)) (leaves s)))

-- The bounds of a name are locally static only where those of each slice in it are: else it hangs on these whether its evaluation stops.
abbrev pub name_bounds : Named → Env → Static
name_bounds p e = record (own_bounds (p.make e)) { is_local = (own_bounds (p.make e)).is_local && p.local_slices e }

-- Attributes of bounds are as static as the bounds: those of a type or object, or else the value must be locally static.
abbrev pub bounds_known : Named → Env → Static
bounds_known p e =
    if p.is_object then name_bounds p e
    else record { is_local = (p.known e).is_local; is_global = (p.known e).is_local && (p.known e).is_global }

-- a name with an attribute
abbrev pub attributed : Attribute → Option ℕ → Named → Named
attributed (BoundAt side) mark p = fresh (bound_value side mark p) mark (bounds_known p) (attribute_read false p)
attributed LengthOf mark p = fresh (length_value p) mark (bounds_known p) (attribute_read false p)
attributed (RangeOf backwards) mark p =
    record no_name {
      range = Some (range_value backwards mark p);
      mark = mark;
      known = λ e. unless_stopped (range_value backwards mark p e) (bounds_known p e);
      inner = attribute_read false p;
    }
attributed EventOf mark p = fresh (event_value p) mark (λ _. never) (attribute_read true p)
attributed (OfType attribute) mark p = record p { callee = Attributed attribute; mark = mark; is_mark = true }
attributed NoAttribute mark p = no_name

-- the image of a value of a discrete type: an integer's decimal digits, a literal as it is written
abbrev pub image : List (List ℕ) → Value Scalar → Got (Value Scalar)
image [] v = got (applied (Unary (one.Text Rattle.vd_operators.specs.declared.texts.TextOperator.TheVariants.IntegerText)) (v ∷ []))
image (l ∷ ls) v = literal_of v >>= λ n. or_senseless (slice_get (l ∷ ls) n) >>= λ name. got (text name)

abbrev pub of_type : TypeAttribute → ScalarSubtype → Make → Value Scalar → Got (Value Scalar)
of_type PositionOf s make v = got (applied (Unary (one.Discrete discrete.Position)) (v ∷ []))
of_type ValueOf s make v = got (applied (Unary (one.Discrete (discrete.ValueAt s.of_type))) (v ∷ []))
of_type SuccessorOf s make v = got (applied (Unary (one.Discrete (discrete.Successor s.of_type))) (v ∷ []))
of_type PredecessorOf s make v = got (applied (Unary (one.Discrete (discrete.Predecessor s.of_type))) (v ∷ []))
of_type ImageOf s make v = image (literals_of make) v

abbrev pub type_attribute_value : TypeAttribute → Named → (Env → Got (Value Scalar)) → Env → Got (Value Scalar)
type_attribute_value a p argument e = p.subtype e >>= scalars_of >>= λ s. argument e >>= of_type a s (p.make e)

-- ---- conversions and qualified expressions

-- each element made one of its subtype, from the left
abbrev pub all_converted : (Value Scalar → Got (Value Scalar)) → Items Scalar → Got (Items Scalar)
all_converted go none = Ok none
all_converted go (item v vs) = go v >>= λ w. all_converted go vs >>= λ ws. Ok (item w ws)

abbrev pub with_elements : (Value Scalar → Got (Value Scalar)) → Value Scalar → Got (Value Scalar)
with_elements go (Array b vs) = all_converted go vs >>= λ ws. Ok (Array b ws)
with_elements go v = Ok v

abbrev pub whole_converted : Subtype → Value Scalar → Got (Value Scalar)
whole_converted s v = got (applied (Unary (one.Conversion (head_of s))) (v ∷ []))

-- The value made one of a subtype: its own range, bounds or length, and then its elements, which may have other bounds in another array type.
abbrev pub converted : Subtype → Value Scalar → Got (Value Scalar)
converted (Arrays index bounds element) v = whole_converted (Arrays index bounds element) v >>= with_elements (converted element)
converted s v = whole_converted s v

-- as static as what it converts and all bounds of the mark
abbrev pub conversion_known : ℕ → (Env → Static) → Env → Static
conversion_known d known e = both (all_bounds (e.denotes d).make) (known e)

-- A qualified expression is of the type already, and so its elements are of their subtype.
abbrev pub qualified : ℕ → Option ℕ → (Env → Got (Value Scalar)) → (Env → Static) → (Env → Got (List Signals)) → Named
qualified d mark operand known inner = fresh (λ e. operand e >>= whole_converted (e.denotes d).subtype) mark (conversion_known d known) inner

-- A conversion of the name of a signal to one of the vector types is still made of its scalar signals, which matters in associations.
abbrev pub tied_through : Bool → Named → Named → Named
tied_through true p c = record c { signals = p.signals; is_whole = p.is_whole }
tied_through false p c = c

-- A conversion between the two vector types changes nothing: they have one index subtype, and elements of one type.
abbrev pub converting : Bool → ℕ → (Env → Got (Value Scalar)) → Env → Got (Value Scalar)
converting true d operand e = operand e
converting false d operand e = operand e >>= converted (e.denotes d).subtype

abbrev pub conversion_of : Bool → ℕ → Option ℕ → (Env → Got (Value Scalar)) → (Env → Static) → (Env → Got (List Signals)) → Named → Named
conversion_of between d mark operand known inner p =
    tied_through (is_vector d && is_some p.prefix) p (fresh (converting between d operand) mark (conversion_known d known) inner)
