-- What the code's symbols, sorts and operations stand for. (IEEE 1076, operators.)
use Rattle.vd_vectors.specs.declared.logics.LogicType.TheVariants.{TwoValued, NineValued}
use Rattle.vd_meaning.specs.Tables.{IntegerSort, TimeSort, LogicSort, LogicsSort, OtherSort}
use Rattle.vd_meaning.specs.Tables.{Sort as TypeSort}
use Rattle.vd_meaning.specs.Operators.{LogicSymbol, NotSymbol, EqualitySymbol, OrderSymbol, ShiftSymbol, PlusSymbol, MinusSymbol, JoinSymbol, TimesSymbol, OverSymbol, ModulusSymbol, RemainderSymbol, PowerSymbol, AbsoluteSymbol, ConditionSymbol, MatchSymbol, MatchOrderSymbol, TextSymbol, EdgeSymbol, NoSymbol, shift_of, match_of, of_two}
use Rattle.vd_meaning.specs.Operators.{Symbol as OperatorSymbol}
use Rattle.vd_meaning.specs.Operators.{Operation as Done, Apply, Lazily, Join, TruthText, Edge, NoOperation}
use Rattle.vd_operations.specs.declared.symbols.Symbol.{Symbol}
use Rattle.vd_operations.specs.declared.symbols.Symbol.TheVariants as symbol
use Rattle.vd_operations.specs.declared.sorts.Sort.{Sort}
use Rattle.vd_operations.specs.declared.sorts.Sort.TheVariants as sort
use Rattle.vd_operations.specs.declared.operations.Operation.{Operation}
use Rattle.vd_operations.specs.declared.operations.Operation.TheVariants as operation

abbrev pub read_symbol : Symbol → OperatorSymbol
read_symbol (symbol.Logical o) = LogicSymbol o
read_symbol symbol.Negation = NotSymbol
read_symbol (symbol.Equality equal) = EqualitySymbol equal
read_symbol (symbol.Order r) = OrderSymbol r
read_symbol (symbol.Shift o) = ShiftSymbol o
read_symbol symbol.Plus = PlusSymbol
read_symbol symbol.Minus = MinusSymbol
read_symbol symbol.Join = JoinSymbol
read_symbol symbol.Times = TimesSymbol
read_symbol symbol.Over = OverSymbol
read_symbol symbol.Modulus = ModulusSymbol
read_symbol symbol.Remainder = RemainderSymbol
read_symbol symbol.Power = PowerSymbol
read_symbol symbol.Absolute = AbsoluteSymbol
read_symbol symbol.Condition = ConditionSymbol
read_symbol (symbol.Match equal) = MatchSymbol equal
read_symbol (symbol.MatchOrder r) = MatchOrderSymbol r
read_symbol symbol.Text = TextSymbol
read_symbol (symbol.Edge rising) = EdgeSymbol rising
read_symbol symbol.NoSymbol = NoSymbol

abbrev pub read_sort : Sort → TypeSort
read_sort sort.Integers = IntegerSort
read_sort sort.Times = TimeSort
read_sort (sort.Logic of) = LogicSort of
read_sort (sort.Logics of) = LogicsSort of
read_sort sort.Others = OtherSort

abbrev pub read_operation : Operation → Done
read_operation (operation.Apply op) = Apply op
read_operation (operation.Lazily o) = Lazily o
read_operation (operation.Join l r) = Join l r
read_operation operation.TruthText = TruthText
read_operation (operation.Edge rising) = Edge rising
read_operation operation.Nothing = NoOperation

-- the operators of `of_two` in parts
abbrev pub on_logics : OperatorSymbol → TypeSort → Done
on_logics (ShiftSymbol o) l = shift_of o l
on_logics (MatchSymbol equal) l = match_of equal l
on_logics _ l = NoOperation

abbrev pub on_numbers : OperatorSymbol → TypeSort → TypeSort → Done
on_numbers PlusSymbol l r = of_two PlusSymbol l r
on_numbers MinusSymbol l r = of_two MinusSymbol l r
on_numbers TimesSymbol l r = of_two TimesSymbol l r
on_numbers OverSymbol l r = of_two OverSymbol l r
on_numbers ModulusSymbol l r = of_two ModulusSymbol l r
on_numbers RemainderSymbol l r = of_two RemainderSymbol l r
on_numbers PowerSymbol l r = of_two PowerSymbol l r
on_numbers s l r = on_logics s l
