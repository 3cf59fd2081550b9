-- Operators on operands that have been evaluated.
use Rattle.std.proofs.Common.{◌≡◌, ◌<◌, ◌≤◌, ℕ, ◌+◌, Bool, true, false, List, [], ◌∷◌, ◌++◌, length, drop, get_or, None, Option, Some, refl, sym, ap, subst, ◌∙◌, arith, drop_of_length-le}
use Rattle.std.specs.Prelude.{Result, Ok, Err, IfOk, if◌then◌else◌}
use Rattle.std.proofs.lemmas.List.{drop_more, append-nil, append_assoc}
use Rattle.vd_values.specs.declared.scalar.Scalar.{Scalar}
use Rattle.vd_values.specs.declared.scalar.StopKind.{StopKind}
use Rattle.vd_values.specs.declared.logic.Logic.{Logic}
use Rattle.vd_composites.specs.Stops.{OrStop, ◌>>=◌}
use Rattle.vd_composites.specs.Composites.{Value}
use Rattle.vd_composites.specs.Subtypes.{Subtype}
use Rattle.vd_vectors.specs.declared.logics.LogicType.TheVariants.{TwoValued}
use Rattle.vd_vectors.specs.declared.logical.LogicalOperator.{LogicalOperator}
use Rattle.vd_vectors.specs.Logics.{logic_in, truth}
use Rattle.vd_operators.specs.declared.op.Op.{Op}
use Rattle.vd_operators.specs.declared.op.Op.TheVariants.{Binary}
use Rattle.vd_operators.specs.declared.op.BinaryOp.TheVariants as two
use Rattle.vd_operators.specs.Applied.{applied}
use Rattle.vd_subtypes.specs.declared.operands.OperandKind.{OperandKind}
use Rattle.vd_environments.specs.Got.{Got, got}
use Rattle.vd_environments.specs.Environments.{Env, Argument, unknown}
use Rattle.vd_meaning.specs.Operators.{Apply, Edge, Join, Lazily, NoOperation, Operation, TruthText, operate, arguments_of, lazily, decides, decided}
use Rattle.vd_plain_values.specs.Operands.{all_found, AreArguments, lazily_from, undecided, on_values, on_operands, operate_on, result_subtype}

-- ---- all of some operands

split : {A : Type 0} (rs : List (OrStop A)) (i : ℕ) (r : OrStop A) → i < length rs → r ≡ get_or rs i r → drop i rs ≡ r ∷ drop (i + 1) rs
split rs i r below here = drop_more rs i r below ∙ ap (λ x. x ∷ drop (i + 1) rs) (sym here)

rest_of : {A : Type 0} (g : OrStop (List A)) (made : List A) (x : A) → ((g >>= λ xs. Ok (x ∷ xs)) >>= λ xs. Ok (made ++ xs)) ≡ (g >>= λ xs. Ok ((made ++ x ∷ []) ++ xs))
rest_of (Ok xs) made x = ap Ok (sym (append_assoc made (x ∷ []) xs))
rest_of (Err k) made x = refl

pub one_found : {A : Type 0} (rs : List (OrStop A)) (i : ℕ) (r : OrStop A) (x : A) (made more : List A) (want : OrStop (List A)) → i < length rs → r ≡ get_or rs i r → r ≡ Ok x → more ≡ made ++ x ∷ []
    → (all_found (drop i rs) >>= λ xs. Ok (made ++ xs)) ≡ want → (all_found (drop (i + 1) rs) >>= λ xs. Ok (more ++ xs)) ≡ want
one_found rs i r x made more want below here is pushed before =
    ap (λ m. all_found (drop (i + 1) rs) >>= λ xs. Ok (m ++ xs)) pushed
    ∙ sym (rest_of (all_found (drop (i + 1) rs)) made x)
    ∙ ap (λ g. (g >>= λ y. all_found (drop (i + 1) rs) >>= λ ys. Ok (y ∷ ys)) >>= λ xs. Ok (made ++ xs)) (sym is)
    ∙ ap (λ us. all_found us >>= λ xs. Ok (made ++ xs)) (sym (split rs i r below here)) ∙ before

pub one_stop : {A : Type 0} (rs : List (OrStop A)) (i : ℕ) (r : OrStop A) (k : StopKind) (made : List A) (want : OrStop (List A)) → i < length rs → r ≡ get_or rs i r → r ≡ Err k
    → (all_found (drop i rs) >>= λ xs. Ok (made ++ xs)) ≡ want → want ≡ Err k
one_stop rs i r k made want below here is before =
    sym before ∙ ap (λ us. all_found us >>= λ xs. Ok (made ++ xs)) (split rs i r below here)
    ∙ ap (λ g. (g >>= λ y. all_found (drop (i + 1) rs) >>= λ ys. Ok (y ∷ ys)) >>= λ xs. Ok (made ++ xs)) is

pub none_more : {A : Type 0} (rs : List (OrStop A)) (i : ℕ) (made : List A) (want : OrStop (List A)) → length rs ≤ i
    → (all_found (drop i rs) >>= λ xs. Ok (made ++ xs)) ≡ want → want ≡ Ok made
none_more rs i made want end before =
    sym before ∙ ap (λ us. all_found us >>= λ xs. Ok (made ++ xs)) (drop_of_length-le rs end) ∙ ap Ok (append-nil made)

-- ---- arguments

got_then : {A B : Type 0} (g : OrStop A) (f : A → OrStop B) → got (g >>= f) ≡ (got g >>= λ x. got (f x))
got_then (Ok x) f = refl
got_then (Err k) f = refl

got_listed : {A : Type 0} (x : A) (g : OrStop (List A)) → (got g >>= λ xs. Ok (x ∷ xs)) ≡ got (g >>= λ xs. Ok (x ∷ xs))
got_listed x (Ok xs) = refl
got_listed x (Err k) = refl

step_of : {A : Type 0} (r : OrStop A) (g : OrStop (List A)) → (got r >>= λ x. got g >>= λ xs. Ok (x ∷ xs)) ≡ got (r >>= λ x. g >>= λ xs. Ok (x ∷ xs))
step_of (Ok x) g = got_listed x g
step_of (Err k) g = refl

pub arguments_got : (as' : List Argument) (rs : List (OrStop (Value Scalar))) → AreArguments as' rs → arguments_of as' ≡ got (all_found rs)
arguments_got [] [] are = refl
arguments_got [] (r ∷ rs) are = absurd are
arguments_got (a ∷ as') [] are = absurd are
arguments_got (a ∷ as') (r ∷ rs) are =
    ap (λ g. g >>= λ x. arguments_of as' >>= λ xs. Ok (x ∷ xs)) are.0
    ∙ ap (λ h. got r >>= λ x. h >>= λ xs. Ok (x ∷ xs)) (arguments_got as' rs are.1)
    ∙ step_of r (all_found rs)

pub applied_strictly : (op : Op) (s : Subtype) (as' : List Argument) (rs : List (OrStop (Value Scalar))) → AreArguments as' rs → operate_on (Apply op) s as' ≡ on_operands (Apply op) s rs
applied_strictly op s as' rs are = ap (λ g. g >>= on_values (Apply op) s) (arguments_got as' rs are)

pub joined_strictly : (l r : OperandKind) (s : Subtype) (as' : List Argument) (rs : List (OrStop (Value Scalar))) → AreArguments as' rs → operate_on (Join l r) s as' ≡ on_operands (Join l r) s rs
joined_strictly l r s as' rs are = ap (λ g. g >>= on_values (Join l r) s) (arguments_got as' rs are)

pub text_strictly : (s : Subtype) (as' : List Argument) (rs : List (OrStop (Value Scalar))) → AreArguments as' rs → operate_on TruthText s as' ≡ on_operands TruthText s rs
text_strictly s as' rs are = ap (λ g. g >>= on_values TruthText s) (arguments_got as' rs are)

-- ---- the subtype of the result

pub operate_at : (op : Operation) (result : Option ℕ) (e : Env) (as' : List Argument) → operate op result e as' ≡ operate_on op (result_subtype result e) as'
operate_at (Apply op) result e as' = refl
operate_at (Lazily o) result e as' = refl
operate_at (Join l r) None e as' = refl
operate_at (Join l r) (Some n) e as' = refl
operate_at TruthText result e as' = refl
operate_at (Edge rising) result e as' = refl
operate_at NoOperation result e as' = refl

-- ---- lazy operators

undecided_got : (o : LogicalOperator) (v : Value Scalar) (r : OrStop (Value Scalar)) → (got r >>= λ w. got (applied (Binary (two.Logical o TwoValued)) (v ∷ w ∷ []))) ≡ got (undecided o v r)
undecided_got o v (Ok w) = refl
undecided_got o v (Err k) = refl

either_got : (o : LogicalOperator) (v : Value Scalar) (r : OrStop (Value Scalar)) (b : Bool)
    → (if b then Ok (truth (decided o)) else (got r >>= λ w. got (applied (Binary (two.Logical o TwoValued)) (v ∷ w ∷ []))))
    ≡ got (if b then Ok (truth (decided o)) else undecided o v r)
either_got o v r true = refl
either_got o v r false = undecided_got o v r

found_got : (o : LogicalOperator) (v : Value Scalar) (r : OrStop (Value Scalar)) (g : OrStop Logic)
    → (got g >>= λ a. if decides o a then Ok (truth (decided o)) else (got r >>= λ w. got (applied (Binary (two.Logical o TwoValued)) (v ∷ w ∷ []))))
    ≡ got (g >>= λ a. if decides o a then Ok (truth (decided o)) else undecided o v r)
found_got o v r (Ok a) = either_got o v r (decides o a)
found_got o v r (Err k) = refl

-- two operands, of which the left one has a value
pub lazily_got : (o : LogicalOperator) (as' : List Argument) (v : Value Scalar) (l r : OrStop (Value Scalar)) → l ≡ Ok v → AreArguments as' (l ∷ r ∷ []) → lazily o as' ≡ got (lazily_from o v r)
lazily_got o [] v l r is are = absurd are
lazily_got o (a ∷ []) v l r is are = absurd are.1
lazily_got o (a ∷ b ∷ []) v l r is are =
    ap (λ g. g >>= λ u. got (logic_in TwoValued u) >>= λ x. if decides o x then Ok (truth (decided o)) else (b unknown >>= λ w. got (applied (Binary (two.Logical o TwoValued)) (u ∷ w ∷ [])))) (are.0 ∙ ap got is)
    ∙ ap (λ h. got (logic_in TwoValued v) >>= λ x. if decides o x then Ok (truth (decided o)) else (h >>= λ w. got (applied (Binary (two.Logical o TwoValued)) (v ∷ w ∷ [])))) are.1.0
    ∙ found_got o v r (logic_in TwoValued v)
lazily_got o (a ∷ b ∷ c ∷ as') v l r is are = absurd are.1.1

pub lazily_stops : (o : LogicalOperator) (as' : List Argument) (k : StopKind) (l r : OrStop (Value Scalar)) → l ≡ Err k → AreArguments as' (l ∷ r ∷ []) → lazily o as' ≡ got (Err k)
lazily_stops o [] k l r is are = absurd are
lazily_stops o (a ∷ []) k l r is are = absurd are.1
lazily_stops o (a ∷ b ∷ []) k l r is are =
    ap (λ g. g >>= λ u. got (logic_in TwoValued u) >>= λ x. if decides o x then Ok (truth (decided o)) else (b unknown >>= λ w. got (applied (Binary (two.Logical o TwoValued)) (u ∷ w ∷ [])))) (are.0 ∙ ap got is)
lazily_stops o (a ∷ b ∷ c ∷ as') k l r is are = absurd are.1.1

-- ---- answers

two_of : {A : Type 0} (xs : List A) (a b : A) → 2 ≤ length xs → length xs < 3 → a ≡ get_or xs 0 a → b ≡ get_or xs 1 b → xs ≡ a ∷ b ∷ []
two_of [] a b least most first second = absurd (omega arith)
two_of (x ∷ []) a b least most first second = absurd (omega arith)
two_of (x ∷ y ∷ []) a b least most first second = λ i. sym first i ∷ sym second i ∷ []
two_of (x ∷ y ∷ z ∷ xs) a b least most first second = absurd (omega arith)

pub lazily_answer : {E : Type 0} (o : LogicalOperator) (as' : List Argument) (v : Value Scalar) (ops : List (OrStop (Value Scalar))) (l r : OrStop (Value Scalar)) (answer : Result (OrStop (Value Scalar)) E)
    → 2 ≤ length ops → length ops < 3 → l ≡ get_or ops 0 l → r ≡ get_or ops 1 r → l ≡ Ok v → IfOk answer (λ x. x ≡ lazily_from o v r) → AreArguments as' ops → IfOk answer (λ x. lazily o as' ≡ got x)
lazily_answer o as' v ops l r (Ok x) least most first second is found are =
    lazily_got o as' v l r is (subst (AreArguments as') (two_of ops l r least most first second) are) ∙ ap got (sym found)
lazily_answer o as' v ops l r (Err e) least most first second is found are = tt

pub same_answer : {E : Type 0} (answer : Result (OrStop (Value Scalar)) E) (f g : Got (Value Scalar)) → f ≡ g → IfOk answer (λ x. g ≡ got x) → IfOk answer (λ x. f ≡ got x)
same_answer answer f g same found = subst (λ h. IfOk answer (λ x. h ≡ got x)) (sym same) found
