-- Operands that have been evaluated.
use Rattle.std.specs.Prelude.{◌≡◌, ℕ, List, [], ◌∷◌, Option, Some, None, Result, Ok, Err, Vec, if◌then◌else◌}
use Rattle.std.specs.Global.{Global}
use Rattle.vd_values.specs.declared.scalar.Scalar.{Scalar}
use Rattle.vd_values.specs.declared.scalar.StopKind.{StopKind}
use Rattle.vd_composites.specs.Stops.{OrStop, ◌>>=◌}
use Rattle.vd_composites.specs.Composites.{Value}
use Rattle.vd_composites.specs.Subtypes.{Subtype}
use Rattle.vd_vectors.specs.declared.logics.LogicType.TheVariants.{TwoValued}
use Rattle.vd_vectors.specs.declared.logical.LogicalOperator.{LogicalOperator}
use Rattle.vd_vectors.specs.Logics.{logic_in, truth}
use Rattle.vd_operators.specs.declared.op.Op.TheVariants.{Binary}
use Rattle.vd_operators.specs.declared.op.BinaryOp.TheVariants as two
use Rattle.vd_operators.specs.Applied.{applied}
use Rattle.vd_environments.specs.Got.{Got, got, senseless}
use Rattle.vd_environments.specs.Environments.{Argument, Env, Function, no_subtype, unknown}
use Rattle.vd_meaning.specs.Operators.{Operation, Apply, Edge, Join, Lazily, NoOperation, TruthText, arguments_of, decides, decided, joining, lazily, truth_text}

-- each value, or the first stop
abbrev pub all_found : {A : Type 0} → List (OrStop A) → OrStop (List A)
all_found [] = Ok []
all_found (r ∷ rs) = r >>= λ x. all_found rs >>= λ xs. Ok (x ∷ xs)

abbrev pub AreFound : {A : Type 0} → Result (Vec A Global) StopKind → OrStop (List A) → Type 0
AreFound (Ok xs) g = g ≡ Ok xs.items
AreFound (Err k) g = g ≡ Err k

-- where nothing is known of their subtypes, the arguments have these values
abbrev pub AreArguments : List Argument → List (OrStop (Value Scalar)) → Type 0
AreArguments [] [] = Unit {0}
AreArguments (a ∷ as') (r ∷ rs) = (a unknown ≡ got r) × AreArguments as' rs
AreArguments _ _ = ⊥

-- an operator of BIT or BOOLEAN whose left operand has this value
abbrev pub lazily_from : LogicalOperator → Value Scalar → OrStop (Value Scalar) → OrStop (Value Scalar)
lazily_from o v right =
    logic_in TwoValued v >>= λ a.
    if decides o a then Ok (truth (decided o)) else (right >>= λ w. applied (Binary (two.Logical o TwoValued)) (v ∷ w ∷ []))

-- an operation whose result is of this subtype
abbrev pub operate_on : Operation → Subtype → Function
operate_on (Apply op) s as' = arguments_of as' >>= λ vs. got (applied op vs)
operate_on (Lazily o) s as' = lazily o as'
operate_on (Join l r) s as' = arguments_of as' >>= λ vs. joining l r s vs
operate_on TruthText s as' = arguments_of as' >>= truth_text
operate_on (Edge rising) s as' = senseless
operate_on NoOperation s as' = senseless

-- the subtype of a result, which is none where no type is known
abbrev pub result_subtype : Option ℕ → Env → Subtype
result_subtype None e = no_subtype
result_subtype (Some n) e = (e.denotes n).subtype

-- what is done with operands that all have a value
abbrev pub on_values : Operation → Subtype → List (Value Scalar) → Got (Value Scalar)
on_values (Apply op) s vs = got (applied op vs)
on_values (Join l r) s vs = joining l r s vs
on_values TruthText s vs = truth_text vs
on_values _ s vs = senseless

abbrev pub undecided : LogicalOperator → Value Scalar → OrStop (Value Scalar) → OrStop (Value Scalar)
undecided o v right = right >>= λ w. applied (Binary (two.Logical o TwoValued)) (v ∷ w ∷ [])

-- what is done with operands of which all are evaluated
abbrev pub on_operands : Operation → Subtype → List (OrStop (Value Scalar)) → Got (Value Scalar)
on_operands op s rs = got (all_found rs) >>= on_values op s
