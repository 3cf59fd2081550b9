-- Operations on operands of which it is known whether they stop.
use Rattle.std.proofs.Common.{List, None, Ok, Option, Some, [], ap, refl, sym, ℕ, ◌∙◌, ◌∷◌, ◌≡◌}
use Rattle.std.specs.Prelude.{if◌then◌else◌, map}
use Rattle.vd_composites.specs.Composites.{Value}
use Rattle.vd_composites.specs.Stops.{OrStop, ◌>>=◌}
use Rattle.vd_composites.specs.Subtypes.{Subtype}
use Rattle.vd_environments.specs.Environments.{Argument, Env, unknown}
use Rattle.vd_environments.specs.Got.{Got, got}
use Rattle.vd_value_rules.specs.Found.{found}
use Rattle.vd_meaning.specs.Operators.{Apply, Edge, Join, Lazily, NoOperation, Operation, TruthText, arguments_of, decided, decides, joining, lazily, operate, truth_text}
use Rattle.vd_operators.specs.Applied.{applied}
use Rattle.vd_operators.specs.declared.op.BinaryOp.TheVariants as two
use Rattle.vd_operators.specs.declared.op.Op.TheVariants.{Binary}
use Rattle.vd_plain_values.specs.Operands.{AreArguments, operate_on, result_subtype}
use Rattle.vd_plain_values.proofs.OperandLemmas.{operate_at}
use Rattle.vd_static_values.specs.Entries.{IsFound}
use Rattle.vd_static_values.proofs.FoundLemmas.{found_of, if_found, is_found, then_found}
use Rattle.vd_static_values.specs.Operands.{AreOperands, stopping}
use Rattle.vd_value_rules.specs.Knowledge.{at_mark}
use Rattle.vd_values.specs.declared.scalar.Scalar.{Scalar}
use Rattle.vd_vectors.specs.Logics.{logic_in, or_misshapen, truth}
use Rattle.vd_vectors.specs.declared.logical.LogicalOperator.{LogicalOperator}
use Rattle.vd_vectors.specs.declared.logics.LogicType.TheVariants.{TwoValued}

-- ---- the subtype of the result

marked_result : (result : Option ℕ) (e : Env) → result_subtype result e ≡ (at_mark result e).subtype
marked_result None e = refl
marked_result (Some n) e = refl

-- An operation is that on the subtype that its result has. `&` that has none is senseless.
pub operated_at_mark : (op : Operation) (result : Option ℕ) (e : Env) (as' : List Argument) → operate op result e as' ≡ operate_on op (at_mark result e).subtype as'
operated_at_mark op result e as' = operate_at op result e as' ∙ ap (λ s. operate_on op s as') (marked_result result e)

-- ---- arguments that come to the same values

abbrev SameArguments : List Argument → List Argument → Type 0
SameArguments [] [] = Unit {0}
SameArguments (a ∷ as') (b ∷ bs) = (found (a unknown) ≡ found (b unknown)) × SameArguments as' bs
SameArguments _ _ = ⊥

arguments_same : (as' bs : List Argument) → SameArguments as' bs → found (arguments_of as') ≡ found (arguments_of bs)
arguments_same [] [] same = refl
arguments_same [] (b ∷ bs) same = absurd same
arguments_same (a ∷ as') [] same = absurd same
arguments_same (a ∷ as') (b ∷ bs) same =
    then_found (a unknown) (b unknown) (λ x. arguments_of as' >>= λ xs. Ok (x ∷ xs)) (λ x. arguments_of bs >>= λ xs. Ok (x ∷ xs)) same.0
    (λ x. then_found (arguments_of as') (arguments_of bs) (λ xs. Ok (x ∷ xs)) (λ xs. Ok (x ∷ xs)) (arguments_same as' bs same.1) (λ xs. refl))

-- where the left operand of a lazy operator has a value
abbrev decided_or : LogicalOperator → Argument → Value Scalar → Got (Value Scalar)
decided_or o r v =
    got (logic_in TwoValued v) >>= λ a.
    if decides o a then Ok (truth (decided o)) else (r unknown >>= λ w. got (applied (Binary (two.Logical o TwoValued)) (v ∷ w ∷ [])))

right_same : (o : LogicalOperator) (r s : Argument) (v : Value Scalar) → found (r unknown) ≡ found (s unknown) → found (decided_or o r v) ≡ found (decided_or o s v)
right_same o r s v same =
    then_found (got (logic_in TwoValued v)) (got (logic_in TwoValued v))
    (λ a. if decides o a then Ok (truth (decided o)) else (r unknown >>= λ w. got (applied (Binary (two.Logical o TwoValued)) (v ∷ w ∷ []))))
    (λ a. if decides o a then Ok (truth (decided o)) else (s unknown >>= λ w. got (applied (Binary (two.Logical o TwoValued)) (v ∷ w ∷ [])))) refl
    (λ a. if_found (decides o a) (Ok (truth (decided o))) (r unknown >>= λ w. got (applied (Binary (two.Logical o TwoValued)) (v ∷ w ∷ [])))
    (s unknown >>= λ w. got (applied (Binary (two.Logical o TwoValued)) (v ∷ w ∷ [])))
    (then_found (r unknown) (s unknown) (λ w. got (applied (Binary (two.Logical o TwoValued)) (v ∷ w ∷ [])))
    (λ w. got (applied (Binary (two.Logical o TwoValued)) (v ∷ w ∷ []))) same (λ w. refl)))

lazily_same : (o : LogicalOperator) (as' bs : List Argument) → SameArguments as' bs → found (lazily o as') ≡ found (lazily o bs)
lazily_same o [] [] same = refl
lazily_same o [] (b ∷ bs) same = absurd same
lazily_same o (a ∷ as') [] same = absurd same
lazily_same o (a ∷ []) (b ∷ []) same = refl
lazily_same o (a ∷ []) (b ∷ b' ∷ bs) same = absurd same.1
lazily_same o (a ∷ a' ∷ as') (b ∷ []) same = absurd same.1
lazily_same o (a ∷ a' ∷ []) (b ∷ b' ∷ []) same =
    then_found (a unknown) (b unknown) (decided_or o a') (decided_or o b') same.0 (λ v. right_same o a' b' v same.1.0)
lazily_same o (a ∷ a' ∷ []) (b ∷ b' ∷ b'' ∷ bs) same = absurd same.1.1
lazily_same o (a ∷ a' ∷ a'' ∷ as') (b ∷ b' ∷ []) same = absurd same.1.1
lazily_same o (a ∷ a' ∷ a'' ∷ as') (b ∷ b' ∷ b'' ∷ bs) same = refl

with_same : (as' bs : List Argument) (f : List (Value Scalar) → Got (Value Scalar)) → SameArguments as' bs → found (arguments_of as' >>= f) ≡ found (arguments_of bs >>= f)
with_same as' bs f same = then_found (arguments_of as') (arguments_of bs) f f (arguments_same as' bs same) (λ vs. refl)

operate_same : (op : Operation) (s : Subtype) (as' bs : List Argument) → SameArguments as' bs → found (operate_on op s as') ≡ found (operate_on op s bs)
operate_same (Apply op) s as' bs same = with_same as' bs (λ vs. got (applied op vs)) same
operate_same (Lazily o) s as' bs same = lazily_same o as' bs same
operate_same (Join l r) s as' bs same = with_same as' bs (λ vs. joining l r s vs) same
operate_same TruthText s as' bs same = with_same as' bs truth_text same
operate_same (Edge rising) s as' bs same = refl
operate_same NoOperation s as' bs same = refl

-- ---- operands

-- arguments that come to some operands
abbrev pub standing : List (Option (Value Scalar)) → List Argument
standing xs = map (λ x _. got (or_misshapen x)) xs

pub are_standing : (xs : List (Option (Value Scalar))) → AreArguments (standing xs) (stopping xs)
are_standing [] = tt
are_standing (x ∷ xs) = (refl, are_standing xs)

stops_there : (x : Option (Value Scalar)) → found (got (or_misshapen x)) ≡ x
stops_there None = refl
stops_there (Some v) = refl

same_standing : (as' : List Argument) (xs : List (Option (Value Scalar))) → AreOperands as' xs → SameArguments as' (standing xs)
same_standing [] [] are = tt
same_standing [] (x ∷ xs) are = absurd are
same_standing (a ∷ as') [] are = absurd are
same_standing (a ∷ as') (x ∷ xs) are = (found_of x (a unknown) are.0 ∙ sym (stops_there x), same_standing as' xs are.1)

pub operated : (op : Operation) (s : Subtype) (as' : List Argument) (xs : List (Option (Value Scalar))) (r : OrStop (Value Scalar)) (x : Option (Value Scalar))
    → AreOperands as' xs → operate_on op s (standing xs) ≡ got r → IsFound x (got r) → IsFound x (operate_on op s as')
operated op s as' xs r x are is there =
    is_found x (operate_on op s as') (operate_same op s as' (standing xs) (same_standing as' xs are) ∙ ap found is ∙ found_of x (got r) there)
