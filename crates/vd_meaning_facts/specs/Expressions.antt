-- What some expressions come to.
use Rattle.std.specs.Prelude.{◌≡◌, ℕ, ◌==◌, pos, negsuc, Bool, true, false, List, [], ◌∷◌, Option, Some, None, Ok, codes, if◌then◌else◌}
use Rattle.vd_values.specs.declared.scalar.Scalar.{Scalar}
use Rattle.vd_values.specs.declared.scalar.Scalar.TheVariants.{Integer, Literal, Time}
use Rattle.vd_values.specs.declared.scalar.StopKind.TheVariants.{Index, Length, Overflow, DivideByZero}
use Rattle.vd_declarations.specs.declared.classes.Class.TheVariants as class
use Rattle.vd_declarations.specs.declared.declarations.Declaration.{Declaration}
use Rattle.vd_forest.specs.Forest.{Forest}
use Rattle.vd_forms.specs.declared.form.Form.TheVariants as form
use Rattle.vd_resolved.specs.declared.node.Resolved.{Resolved}
use Rattle.vd_composites.specs.declared.ranges.Bounds.{Bounds}
use Rattle.vd_composites.specs.declared.scalars.ScalarType.TheVariants.{Integers, Enumeration}
use Rattle.vd_composites.specs.Composites.{Value, One, Array, items_of}
use Rattle.vd_composites.specs.Subtypes.{Subtype, Arrays}
use Rattle.vd_predefined.specs.Entries.{declared}
use Rattle.vd_predefined.specs.declared.numbers.TheConstants.{BOOLEAN, BIT, INTEGER, TIME, STRING, BIT_VECTOR, STD_ULOGIC}
use Rattle.vd_environments.specs.Got.{Got, stop}
use Rattle.vd_environments.specs.Environments.{Env, Signals, always, never, OfElements, no_make, Indicated, with_object, with_subtype, with_signals, unknown}
use Rattle.vd_meaning.specs.Given.{given_env, whole, numbers_from, arrays, scalars, enumeration, bits}
use Rattle.vd_meaning_facts.specs.Trees.{own, object, node, of, leaf, operator, number_of, number, letter, quotes, first, name, longer, arguments, attribute, mark_piece, downto, upto, associated, others, meaning}

-- ---- declarations: type ints is array (natural range <>) of integer; variable v : ints(7 downto 5) := (10, 20, 30); variable n : integer := 3;
-- signal s : std_ulogic; signal b : bit_vector(3 downto 0); subtype nibble is bit_vector(3 downto 0)

abbrev pub ints : ℕ
ints = own 0

abbrev pub v : ℕ
v = own 1

abbrev pub n : ℕ
n = own 2

abbrev pub s : ℕ
s = own 3

abbrev pub b : ℕ
b = own 4

abbrev pub nibble : ℕ
nibble = own 5

abbrev pub declarations : List Declaration
declarations =
    declared (class.ArrayType INTEGER INTEGER INTEGER) [] None [] ∷ object class.Variable ints ∷ object class.Variable INTEGER
    ∷ object class.Signal STD_ULOGIC ∷ object class.Signal BIT_VECTOR ∷ object (class.Subtype BIT_VECTOR) BIT_VECTOR ∷ []

abbrev pub integers : Indicated
integers = scalars (whole Integers) [] false

abbrev pub int_arrays : Indicated
int_arrays = arrays (numbers_from 0) integers

abbrev pub range : ℕ → ℕ → Bounds
range l r = record { left = pos l; right = pos r; down = true }

abbrev pub integer : ℕ → Value Scalar
integer x = One (Integer (pos x))

abbrev pub bit_array : Bounds → List ℕ → Value Scalar
bit_array bounds ls = Array bounds (items_of (Rattle.std.specs.Prelude.map (λ l. One (Literal l)) ls))

abbrev pub rising : Bounds
rising = record { left = pos 0; right = pos 4; down = false }

abbrev pub bit_arrays : Bounds → Subtype
bit_arrays bounds = Arrays (numbers_from 0) (Some bounds) (enumeration 2 bits).subtype

-- s is the scalar signal 0, which has risen from '0' to '1'; b has the scalar signals 1 to 4
abbrev pub scalar_signal : ℕ → ℕ → Signals
scalar_signal count i = One (record { number = i; of_type = Enumeration count; is_out = false })

abbrev pub start : Env
start = given_env (λ i. if i == 0 then Literal 3 else Literal 1)

abbrev pub around : Env
around =
    with_subtype ints int_arrays.subtype int_arrays.make
    (with_object v (Arrays (numbers_from 0) (Some (range 7 5)) integers.subtype) int_arrays.make (Array (range 7 5) (items_of (integer 10 ∷ integer 20 ∷ integer 30 ∷ []))) never
    (with_object n integers.subtype integers.make (integer 3) never
    (with_signals s (enumeration 9 []).subtype no_make (scalar_signal 9 0)
    (with_signals b (bit_arrays (range 3 0)) (OfElements [] always no_make) (Array (range 3 0) (items_of (scalar_signal 2 1 ∷ scalar_signal 2 2 ∷ scalar_signal 2 3 ∷ scalar_signal 2 4 ∷ [])))
    (with_subtype nibble (bit_arrays (range 3 0)) (OfElements [] always no_make)
    (record start { view = record start.view { before = λ i. if i == 0 then Some (Literal 2) else None } }))))))

abbrev pub value_of : Forest Resolved → Got (Value Scalar)
value_of f = (meaning declarations f).value unknown around

-- where the place has a subtype with these bounds
abbrev pub value_in : Bounds → Forest Resolved → Got (Value Scalar)
value_in bounds f = (meaning declarations f).value (Ok (bit_arrays bounds)) around

abbrev pub ii : List ℕ
ii = INTEGER ∷ INTEGER ∷ []

abbrev pub one_over_zero : Forest Resolved
one_over_zero = operator form.Divide (codes "/") ii INTEGER (number (codes "1") ∷ number (codes "0") ∷ [])

abbrev pub false_literal : Forest Resolved
false_literal = longer BOOLEAN (node form.Identifier (Some 6) (Some BOOLEAN) 0 [] [] ∷ [])

abbrev pub bit : ℕ → Forest Resolved
bit position = letter BIT position (Rattle.std.specs.Prelude.◌+◌ 48 position)

-- v(6) and the like
abbrev pub element : ℕ → ℕ → ℕ → List ℕ → Forest Resolved
element d mark of_elements index = longer of_elements (first d mark ∷ arguments of_elements (number index ∷ []) ∷ [])

abbrev pub slice : ℕ → ℕ → Forest Resolved → Forest Resolved
slice d mark bounds = longer mark (first d mark ∷ arguments mark (bounds ∷ []) ∷ [])

pub record Expressions : Type 0 where
  -- 2147483647 + 1
  pub overflow : value_of (operator form.Add (codes "+") ii INTEGER (number (codes "2147483647") ∷ number (codes "1") ∷ [])) ≡ stop Overflow
  pub by_zero : value_of one_over_zero ≡ stop DivideByZero
  -- false and 1 / 0 = 1: the right operand doesn't count
  pub decided : value_of (operator form.And (codes "and") (BOOLEAN ∷ BOOLEAN ∷ []) BOOLEAN (false_literal ∷ operator form.Equal (codes "=") ii BOOLEAN (one_over_zero ∷ number (codes "1") ∷ []) ∷ [])) ≡ Ok (One (Literal 0))
  -- v(6), v(4) and v(n)
  pub at_six : value_of (element v ints INTEGER (codes "6")) ≡ Ok (integer 20)
  pub at_four : value_of (element v ints INTEGER (codes "4")) ≡ stop Index
  -- v(6 downto 5)'left, and v(5 to 6)
  pub left : value_of (longer INTEGER (first v ints ∷ arguments ints (downto INTEGER (number (codes "6")) (number (codes "5")) ∷ []) ∷ attribute INTEGER (codes "left") ∷ [])) ≡ Ok (integer 6)
  pub turned : value_of (slice v ints (upto INTEGER (number (codes "5")) (number (codes "6")))) ≡ stop Index
  pub long : value_of (longer INTEGER (first v ints ∷ attribute INTEGER (codes "length") ∷ [])) ≡ Ok (integer 3)
  -- bit_vector'("0101") & '1' has the bounds 0 to 4
  pub joined : value_of (operator form.Concatenate (codes "&") (BIT_VECTOR ∷ BIT ∷ []) BIT_VECTOR (quotes BIT_VECTOR (codes "0101") ∷ bit 1 ∷ [])) ≡ Ok (bit_array rising (0 ∷ 1 ∷ 0 ∷ 1 ∷ 1 ∷ []))
  -- (2 => '1', others => '0') for bit_vector(3 downto 0), and with a choice outside of it
  pub with_others : value_in (range 3 0) (of form.Aggregate BIT_VECTOR (associated (number (codes "2")) (bit 1) ∷ others (bit 0) ∷ [])) ≡ Ok (bit_array (range 3 0) (0 ∷ 1 ∷ 0 ∷ 0 ∷ []))
  pub beyond : value_in (range 3 0) (of form.Aggregate BIT_VECTOR (associated (number (codes "4")) (bit 1) ∷ others (bit 0) ∷ [])) ≡ stop Index
  -- (2 => '1', 1 => '0'): ascending, or in the direction that is known
  pub ascending : value_of (of form.Aggregate BIT_VECTOR (associated (number (codes "2")) (bit 1) ∷ associated (number (codes "1")) (bit 0) ∷ [])) ≡ Ok (bit_array (record { left = pos 1; right = pos 2; down = false }) (0 ∷ 1 ∷ []))
  pub descending : value_in (range 1 0) (of form.Aggregate BIT_VECTOR (associated (number (codes "2")) (bit 1) ∷ associated (number (codes "1")) (bit 0) ∷ [])) ≡ Ok (bit_array (range 2 1) (1 ∷ 0 ∷ []))
  -- 2 ns, and 10000000 hr
  pub time : value_of (of form.PhysicalLiteral TIME (number (codes "2") ∷ leaf form.Identifier (codes "ns") ∷ [])) ≡ Ok (One (Time 2000000))
  pub late : value_of (of form.PhysicalLiteral TIME (number (codes "10000000") ∷ leaf form.Identifier (codes "hr") ∷ [])) ≡ stop Overflow
  -- integer'image(-3), by the attribute's argument
  pub image : value_of (longer STRING (mark_piece INTEGER ∷ node form.Attribute None None 0 [] (leaf form.Identifier (codes "image") ∷ []) ∷ arguments STRING (operator form.Negation (codes "-") (INTEGER ∷ []) INTEGER (name n INTEGER ∷ []) ∷ []) ∷ [])) ≡ Ok (bit_array (record { left = pos 1; right = pos 2; down = false }) (codes "-3"))
  -- s, s'event and rising_edge(s)
  pub signal : value_of (name s STD_ULOGIC) ≡ Ok (One (Literal 3))
  pub event : value_of (longer BOOLEAN (first s STD_ULOGIC ∷ attribute BOOLEAN (codes "event") ∷ [])) ≡ Ok (One (Literal 1))
  pub edge : value_of (longer BOOLEAN (node form.Identifier (Some (number_of (codes "rising_edge") (STD_ULOGIC ∷ []))) None 0 [] [] ∷ node form.Arguments (Some (number_of (codes "rising_edge") (STD_ULOGIC ∷ []))) (Some BOOLEAN) 0 [] (name s STD_ULOGIC ∷ []) ∷ [])) ≡ Ok (One (Literal 1))
  -- nibble'("01"), and nibble'("0101")
  pub short : value_of (longer BIT_VECTOR (mark_piece nibble ∷ node form.Qualification (Some nibble) (Some BIT_VECTOR) 0 [] (quotes BIT_VECTOR (codes "01") ∷ []) ∷ [])) ≡ stop Length
  pub qualified : value_of (longer BIT_VECTOR (mark_piece nibble ∷ node form.Qualification (Some nibble) (Some BIT_VECTOR) 0 [] (quotes BIT_VECTOR (codes "0101") ∷ []) ∷ [])) ≡ Ok (bit_array (range 3 0) (0 ∷ 1 ∷ 0 ∷ 1 ∷ []))
