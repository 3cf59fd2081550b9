-- What predefined operators and given functions do, by their symbols and the types of their operands. (IEEE 1076, operators; IEEE 1164.) The values and
-- stops are those of `applied`.
use Rattle.std.specs.Prelude.{ℕ, ◌==◌, Bool, true, false, ◌&&◌, ◌||◌, List, [], ◌∷◌, map, Option, Some, None, Ok, bytes_eq, codes, if◌then◌else◌}
use Rattle.vd_values.specs.declared.scalar.Scalar.{Scalar}
use Rattle.vd_values.specs.declared.scalar.Scalar.TheVariants.{Literal}
use Rattle.vd_values.specs.declared.logic.Logic.{Logic}
use Rattle.vd_values.specs.declared.logic.Logic.TheVariants.{Zero, One}
use Rattle.vd_kernel.specs.Models.{View}
use Rattle.vd_composites.specs.Stops.{◌>>=◌}
use Rattle.vd_composites.specs.Composites.{Value}
use Rattle.vd_composites.specs.Composites.{One as Single}
use Rattle.vd_composites.specs.Subtypes.{Subtype, Arrays}
use Rattle.vd_subtypes.specs.Heads.{head_of}
use Rattle.vd_subtypes.specs.declared.operands.OperandKind.{OperandKind}
use Rattle.vd_subtypes.specs.declared.operands.OperandKind.TheVariants.{WholeArray, OneElement}
use Rattle.vd_vectors.specs.declared.logics.LogicType.TheVariants.{TwoValued, NineValued}
use Rattle.vd_vectors.specs.declared.logical.LogicalOperator.{LogicalOperator}
use Rattle.vd_vectors.specs.declared.logical.LogicalOperator.TheVariants as logical
use Rattle.vd_vectors.specs.declared.shifts.ShiftOperator.{ShiftOperator}
use Rattle.vd_vectors.specs.declared.shifts.ShiftOperator.TheVariants as shift
use Rattle.vd_vectors.specs.declared.orders.Relation.{Relation}
use Rattle.vd_vectors.specs.declared.orders.Relation.TheVariants as relation
use Rattle.vd_vectors.specs.Logics.{logic_in, truth}
use Rattle.vd_operators.specs.declared.arithmetic.IntegerOperator.TheVariants as integer
use Rattle.vd_operators.specs.declared.arithmetic.SignOperator.TheVariants as sign
use Rattle.vd_operators.specs.declared.arithmetic.TimeOperator.TheVariants as time
use Rattle.vd_operators.specs.declared.texts.TextOperator.TheVariants.{IntegerText, LogicText, LogicsText}
use Rattle.vd_operators.specs.declared.op.Op.{Op}
use Rattle.vd_operators.specs.declared.op.Op.TheVariants.{Unary, Binary}
use Rattle.vd_operators.specs.declared.op.UnaryOp.{UnaryOp}
use Rattle.vd_operators.specs.declared.op.UnaryOp.TheVariants as one
use Rattle.vd_operators.specs.declared.op.BinaryOp.{BinaryOp}
use Rattle.vd_operators.specs.declared.op.BinaryOp.TheVariants as two
use Rattle.vd_operators.specs.Applied.{applied}
use Rattle.vd_operators.specs.Texts.{text}
use Rattle.vd_predefined.specs.Lines.{quoted}
use Rattle.vd_environments.specs.Got.{Got, got, all_got, senseless}
use Rattle.vd_environments.specs.Environments.{Argument, Function, Signals, Env, unknown}
use Rattle.vd_meaning.specs.Tables.{Table, Sort, IntegerSort, TimeSort, LogicSort, LogicsSort, sort_of, same_type, operand_types, is_predefined, is_brought}

-- ---- symbols

pub data Symbol : Type 0 where
  LogicSymbol : (o : LogicalOperator) → Symbol
  NotSymbol : Symbol
  EqualitySymbol : (equal : Bool) → Symbol
  OrderSymbol : (r : Relation) → Symbol
  ShiftSymbol : (o : ShiftOperator) → Symbol
  PlusSymbol : Symbol
  MinusSymbol : Symbol
  JoinSymbol : Symbol
  TimesSymbol : Symbol
  OverSymbol : Symbol
  ModulusSymbol : Symbol
  RemainderSymbol : Symbol
  PowerSymbol : Symbol
  AbsoluteSymbol : Symbol
  ConditionSymbol : Symbol
  MatchSymbol : (equal : Bool) → Symbol
  MatchOrderSymbol : (r : Relation) → Symbol
  TextSymbol : Symbol
  EdgeSymbol : (rising : Bool) → Symbol
  NoSymbol : Symbol

-- by the name under which they are declared
abbrev pub symbols : List (List ℕ × Symbol)
symbols =
    (quoted (codes "and"), LogicSymbol logical.And)
    ∷ (quoted (codes "or"), LogicSymbol logical.Or)
    ∷ (quoted (codes "nand"), LogicSymbol logical.Nand)
    ∷ (quoted (codes "nor"), LogicSymbol logical.Nor)
    ∷ (quoted (codes "xor"), LogicSymbol logical.Xor)
    ∷ (quoted (codes "xnor"), LogicSymbol logical.Xnor)
    ∷ (quoted (codes "not"), NotSymbol)
    ∷ (quoted (codes "="), EqualitySymbol true)
    ∷ (quoted (codes "/="), EqualitySymbol false)
    ∷ (quoted (codes "<"), OrderSymbol relation.IsLess)
    ∷ (quoted (codes "<="), OrderSymbol relation.IsAtMost)
    ∷ (quoted (codes ">"), OrderSymbol relation.IsGreater)
    ∷ (quoted (codes ">="), OrderSymbol relation.IsAtLeast)
    ∷ (quoted (codes "sll"), ShiftSymbol shift.LogicalLeft)
    ∷ (quoted (codes "srl"), ShiftSymbol shift.LogicalRight)
    ∷ (quoted (codes "sla"), ShiftSymbol shift.ArithmeticLeft)
    ∷ (quoted (codes "sra"), ShiftSymbol shift.ArithmeticRight)
    ∷ (quoted (codes "rol"), ShiftSymbol shift.RotateLeft)
    ∷ (quoted (codes "ror"), ShiftSymbol shift.RotateRight)
    ∷ (quoted (codes "+"), PlusSymbol)
    ∷ (quoted (codes "-"), MinusSymbol)
    ∷ (quoted (codes "&"), JoinSymbol)
    ∷ (quoted (codes "*"), TimesSymbol)
    ∷ (quoted (codes "/"), OverSymbol)
    ∷ (quoted (codes "mod"), ModulusSymbol)
    ∷ (quoted (codes "rem"), RemainderSymbol)
    ∷ (quoted (codes "**"), PowerSymbol)
    ∷ (quoted (codes "abs"), AbsoluteSymbol)
    ∷ (quoted (codes "??"), ConditionSymbol)
    ∷ (quoted (codes "?="), MatchSymbol true)
    ∷ (quoted (codes "?/="), MatchSymbol false)
    ∷ (quoted (codes "?<"), MatchOrderSymbol relation.IsLess)
    ∷ (quoted (codes "?<="), MatchOrderSymbol relation.IsAtMost)
    ∷ (quoted (codes "?>"), MatchOrderSymbol relation.IsGreater)
    ∷ (quoted (codes "?>="), MatchOrderSymbol relation.IsAtLeast)
    ∷ (codes "to_string", TextSymbol)
    ∷ (codes "rising_edge", EdgeSymbol true)
    ∷ (codes "falling_edge", EdgeSymbol false)
    ∷ []

abbrev pub symbol_in : List (List ℕ × Symbol) → List ℕ → Symbol
symbol_in [] name = NoSymbol
symbol_in (s ∷ ss) name = if bytes_eq s.0 name then s.1 else symbol_in ss name

abbrev pub symbol : List ℕ → Symbol
symbol name = symbol_in symbols name

-- ---- operations

pub data Operation : Type 0 where
  -- all operands are evaluated, from the left
  Apply : (op : Op) → Operation
  -- the right operand is evaluated only where the left one doesn't decide
  Lazily : (o : LogicalOperator) → Operation
  -- `&` of arrays and elements
  Join : (left right : OperandKind) → Operation
  -- `to_string` of BOOLEAN
  TruthText : Operation
  -- of a signal
  Edge : (rising : Bool) → Operation
  NoOperation : Operation

abbrev pub with_one : UnaryOp → Operation
with_one o = Apply (Unary o)

abbrev pub with_two : BinaryOp → Operation
with_two o = Apply (Binary o)

abbrev pub reduced_by : LogicalOperator → Sort → Operation
reduced_by o (LogicsSort of) = with_one (one.Reduction o of)
reduced_by o _ = NoOperation

abbrev pub negated_by : Sort → Operation
negated_by (LogicSort of) = with_one (one.Not of)
negated_by (LogicsSort of) = with_one (one.Not of)
negated_by _ = NoOperation

abbrev pub condition_of : Sort → Operation
condition_of (LogicSort of) = with_one (one.Condition of)
condition_of _ = NoOperation

abbrev pub text_of : Sort → Operation
text_of IntegerSort = with_one (one.Text IntegerText)
text_of (LogicSort TwoValued) = TruthText
text_of (LogicSort NineValued) = with_one (one.Text LogicText)
text_of (LogicsSort NineValued) = with_one (one.Text LogicsText)
text_of _ = NoOperation

-- with one operand of a sort
abbrev pub of_one : Symbol → Sort → Operation
of_one PlusSymbol s = with_one (one.Sign sign.Identity)
of_one MinusSymbol s = with_one (one.Sign sign.Negation)
of_one AbsoluteSymbol s = with_one (one.Sign sign.Absolute)
of_one NotSymbol s = negated_by s
of_one (LogicSymbol o) s = reduced_by o s
of_one ConditionSymbol s = condition_of s
of_one TextSymbol s = text_of s
of_one (EdgeSymbol rising) s = Edge rising
of_one _ s = NoOperation

abbrev pub is_lazy : LogicalOperator → Bool
is_lazy logical.Xor = false
is_lazy logical.Xnor = false
is_lazy _ = true

abbrev pub logical_of : LogicalOperator → Sort → Sort → Operation
logical_of o (LogicSort TwoValued) (LogicSort TwoValued) = if is_lazy o then Lazily o else with_two (two.Logical o TwoValued)
logical_of o (LogicSort of) r = with_two (two.Logical o of)
logical_of o (LogicsSort of) r = with_two (two.Logical o of)
logical_of o _ r = NoOperation

abbrev pub shift_of : ShiftOperator → Sort → Operation
shift_of o (LogicsSort of) = with_two (two.Shift o of)
shift_of o _ = NoOperation

abbrev pub sum_of : Sort → Operation
sum_of TimeSort = with_two (two.Time time.TimeAdd)
sum_of _ = with_two (two.Integer integer.Add)

abbrev pub difference_of : Sort → Operation
difference_of TimeSort = with_two (two.Time time.TimeSubtract)
difference_of _ = with_two (two.Integer integer.Subtract)

abbrev pub product_of : Sort → Sort → Operation
product_of TimeSort r = with_two (two.Time time.TimesInteger)
product_of l TimeSort = with_two (two.Time time.IntegerTimes)
product_of l r = with_two (two.Integer integer.Multiply)

abbrev pub quotient_of : Sort → Operation
quotient_of TimeSort = with_two (two.Time time.DividedByInteger)
quotient_of _ = with_two (two.Integer integer.Divide)

abbrev pub match_of : Bool → Sort → Operation
match_of equal (LogicSort of) = with_two (two.Matching equal of)
match_of equal (LogicsSort of) = with_two (two.Matching equal of)
match_of equal _ = NoOperation

-- with two operands of these sorts
abbrev pub of_two : Symbol → Sort → Sort → Operation
of_two (LogicSymbol o) l r = logical_of o l r
of_two (EqualitySymbol equal) l r = with_two (two.Equality equal)
of_two (OrderSymbol o) l r = with_two (two.Order o)
of_two (ShiftSymbol o) l r = shift_of o l
of_two PlusSymbol l r = sum_of l
of_two MinusSymbol l r = difference_of l
of_two TimesSymbol l r = product_of l r
of_two OverSymbol l r = quotient_of l
of_two ModulusSymbol l r = with_two (two.Integer integer.Modulus)
of_two RemainderSymbol l r = with_two (two.Integer integer.Remainder)
of_two PowerSymbol l r = with_two (two.Integer integer.Power)
of_two (MatchSymbol equal) l r = match_of equal l
of_two (MatchOrderSymbol o) l r = with_two (two.MatchingOrder o)
of_two _ l r = NoOperation

-- whether an operand of `&` is of the type of the result, or an element
abbrev pub operand_kind : Option ℕ → Option ℕ → OperandKind
operand_kind result operand = if same_type result operand then WholeArray else OneElement

abbrev pub of_pair : Symbol → OperandKind → OperandKind → Sort → Sort → Operation
of_pair JoinSymbol left right l r = Join left right
of_pair s left right l r = of_two s l r

abbrev pub of_operands : Table → Symbol → Option ℕ → List (Option ℕ) → Operation
of_operands t s result (x ∷ []) = of_one s (sort_of t x)
of_operands t s result (l ∷ r ∷ []) = of_pair s (operand_kind result l) (operand_kind result r) (sort_of t l) (sort_of t r)
of_operands t s result _ = NoOperation

-- what an operator or a given function does
abbrev pub operation : Table → ℕ → Operation
operation t n = of_operands t (symbol (t.declared n).name) (t.declared n).mark (operand_types t n)

-- ---- applying them

-- the values of arguments, from the left
abbrev pub arguments_of : List Argument → Got (List (Value Scalar))
arguments_of as' = all_got (map (λ a. a unknown) as')

abbrev pub literal_of : Value Scalar → Got ℕ
literal_of (Single (Literal n)) = Ok n
literal_of _ = senseless

-- a value of BOOLEAN
abbrev pub truth_in : Value Scalar → Got Bool
truth_in v = literal_of v >>= λ n. if n == 1 then Ok true else (if n == 0 then Ok false else senseless)

-- The left operand decides `and` and `nand` where it is the literal 0, `or` and `nor` where it is the literal 1.
abbrev pub decides : LogicalOperator → Logic → Bool
decides logical.And Zero = true
decides logical.Nand Zero = true
decides logical.Or One = true
decides logical.Nor One = true
decides _ _ = false

abbrev pub decided : LogicalOperator → Bool
decided logical.Nand = true
decided logical.Or = true
decided _ = false

abbrev pub lazily : LogicalOperator → List Argument → Got (Value Scalar)
lazily o (l ∷ r ∷ []) =
    l unknown >>= λ v. got (logic_in TwoValued v) >>= λ a.
    if decides o a then Ok (truth (decided o)) else (r unknown >>= λ w. got (applied (Binary (two.Logical o TwoValued)) (v ∷ w ∷ [])))
lazily o _ = senseless

-- `&` of an array type
abbrev pub joining : OperandKind → OperandKind → Subtype → List (Value Scalar) → Got (Value Scalar)
joining l r (Arrays index bounds element) vs = got (applied (Binary (two.Concatenation index (head_of element) l r)) vs)
joining l r _ vs = senseless

-- the subtype of a type that is known, or nothing sensible
abbrev pub marked : Option ℕ → Env → Got Subtype
marked None e = senseless
marked (Some n) e = Ok (e.denotes n).subtype

abbrev pub truth_text : List (Value Scalar) → Got (Value Scalar)
truth_text (v ∷ []) = truth_in v >>= λ b. got (text (if b then codes "true" else codes "false"))
truth_text _ = senseless

abbrev pub operate : Operation → Option ℕ → Env → Function
operate (Apply op) result e as' = arguments_of as' >>= λ vs. got (applied op vs)
operate (Lazily o) result e as' = lazily o as'
operate (Join l r) result e as' = arguments_of as' >>= λ vs. marked result e >>= λ s. joining l r s vs
operate TruthText result e as' = arguments_of as' >>= truth_text
operate (Edge rising) result e as' = senseless
operate NoOperation result e as' = senseless

-- What a function or an operator gives for arguments.
abbrev pub function_of : Table → ℕ → Env → Function
function_of t n e = if is_predefined t n then operate (operation t n) (t.declared n).mark e else (e.denotes n).function

-- ---- edges of a signal (IEEE 1164, rising_edge and falling_edge)

-- by the positions of '0' and 'L', and of '1' and 'H'
abbrev pub is_low : Scalar → Bool
is_low (Literal n) = (n == 2) || (n == 6)
is_low _ = false

abbrev pub is_high : Scalar → Bool
is_high (Literal n) = (n == 3) || (n == 7)
is_high _ = false

abbrev pub is_edge : Bool → Scalar → Option Scalar → Bool
is_edge rising now None = false
is_edge true now (Some before) = is_high now && is_low before
is_edge false now (Some before) = is_low now && is_high before

abbrev pub edge : Bool → View → Signals → Got (Value Scalar)
edge rising view (Single x) = Ok (truth (is_edge rising (view.value x.number) (view.before x.number)))
edge rising view _ = senseless

-- ---- which of them a locally static expression may have

-- On one operand: reductions never; `to_string` on INTEGER and BOOLEAN alone.
abbrev pub is_local_text : Sort → Bool
is_local_text IntegerSort = true
is_local_text (LogicSort TwoValued) = true
is_local_text _ = false

abbrev pub is_local_of_one : Symbol → Sort → Bool
is_local_of_one (LogicSymbol o) s = false
is_local_of_one TextSymbol s = is_local_text s
is_local_of_one (EdgeSymbol rising) s = false
is_local_of_one _ s = true

-- On two: logical operators on operands of one type, no matching ones.
abbrev pub is_local_of_two : Symbol → Option ℕ → Option ℕ → Bool
is_local_of_two (LogicSymbol o) l r = same_type l r
is_local_of_two (MatchSymbol equal) l r = false
is_local_of_two (MatchOrderSymbol o) l r = false
is_local_of_two _ l r = true

abbrev pub is_local_of : Table → Symbol → List (Option ℕ) → Bool
is_local_of t s (x ∷ []) = is_local_of_one s (sort_of t x)
is_local_of t s (l ∷ r ∷ []) = is_local_of_two s l r
is_local_of t s _ = false

-- What IEEE 1164 declares itself is never locally static.
abbrev pub is_local_operator : Table → ℕ → Bool
is_local_operator t n = is_brought (t.declared n).class && is_local_of t (symbol (t.declared n).name) (operand_types t n)
