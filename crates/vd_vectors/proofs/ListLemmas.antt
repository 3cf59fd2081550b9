-- Steps of loops over lists of logical values.
use Rattle.std.proofs.Common.{◌≡◌, ◌<◌, ◌≤◌, ℕ, zero, suc, ◌+◌, ℤ, pos, true, false, List, [], ◌∷◌, ◌++◌, length, drop, get_or, refl, sym, ap, ◌∙◌, arith, append_assoc}
use Rattle.std.proofs.Math.Seq.{drop-cons}
use Rattle.std.specs.Prelude.{Ok, Err, if◌then◌else◌}
use Rattle.std.specs.Ordering.{int_eq}
use Rattle.std.specs.declared.cmp.Ordering.TheVariants.{Less, Greater}
use Rattle.vd_values.specs.declared.logic.Logic.{Logic}
use Rattle.vd_values.specs.declared.scalar.StopKind.{StopKind}
use Rattle.vd_values.specs.LogicTables.{and_of}
use Rattle.vd_values.specs.Matching.{match_of}
use Rattle.vd_composites.specs.Stops.{OrStop, ◌>>=◌}
use Rattle.vd_vectors.specs.declared.logics.LogicType.{LogicType}
use Rattle.vd_vectors.specs.declared.logical.LogicalOperator.{LogicalOperator}
use Rattle.vd_vectors.specs.Logics.{logic_at, logics_at}
use Rattle.vd_vectors.specs.Logical.{logical_of, combined, folded}
use Rattle.vd_vectors.specs.Matching.{match_all}
use Rattle.vd_vectors.specs.Orders.{order_of, list_order}
use Rattle.vd_vectors.specs.Shifts.{rightmost}

pub drop_all : {A : Type 0} (xs : List A) (i : ℕ) → length xs ≤ i → drop i xs ≡ []
drop_all [] zero h = refl
drop_all [] (suc i) h = refl
drop_all (x ∷ xs) zero h = absurd (omega arith)
drop_all (x ∷ xs) (suc i) h = drop_all xs i (omega arith)

pub split_here : {A : Type 0} (xs : List A) (i : ℕ) (x : A) → i < length xs → x ≡ get_or xs i x → drop i xs ≡ x ∷ drop (i + 1) xs
split_here xs i x below here = let same : suc i ≡ i + 1 = omega arith in drop-cons xs i x below ∙ (λ j. sym here j ∷ drop (same j) xs)

-- one value more of a list that is combined with another
pub one_combined : (o : LogicalOperator) (made xs ys : List Logic) (i : ℕ) (x y : Logic) → i < length xs → i < length ys → x ≡ get_or xs i x → y ≡ get_or ys i y →
    made ++ combined o (drop i xs) (drop i ys) ≡ (made ++ logical_of o x y ∷ []) ++ combined o (drop (i + 1) xs) (drop (i + 1) ys)
one_combined o made xs ys i x y below under here there =
    (λ j. made ++ combined o (split_here xs i x below here j) (split_here ys i y under there j))
    ∙ sym (append_assoc made (logical_of o x y ∷ []) (combined o (drop (i + 1) xs) (drop (i + 1) ys)))

pub one_folded : (o : LogicalOperator) (a : Logic) (xs : List Logic) (i : ℕ) (x : Logic) → i < length xs → x ≡ get_or xs i x →
    folded o a (drop i xs) ≡ folded o (logical_of o a x) (drop (i + 1) xs)
one_folded o a xs i x below here = ap (folded o a) (split_here xs i x below here)

pub one_matched : (a : Logic) (xs ys : List Logic) (i : ℕ) (x y : Logic) → i < length xs → i < length ys → x ≡ get_or xs i x → y ≡ get_or ys i y →
    match_all a (drop i xs) (drop i ys) ≡ match_all (and_of a (match_of x y)) (drop (i + 1) xs) (drop (i + 1) ys)
one_matched a xs ys i x y below under here there = λ j. match_all a (split_here xs i x below here j) (split_here ys i y under there j)

pub one_last : (a : Logic) (xs : List Logic) (i : ℕ) (x : Logic) → i < length xs → x ≡ get_or xs i x → rightmost a (drop i xs) ≡ rightmost x (drop (i + 1) xs)
one_last a xs i x below here = ap (rightmost a) (split_here xs i x below here)

more_of : (g : OrStop (List Logic)) (made : List Logic) (x : Logic) → ((g >>= λ xs. Ok (x ∷ xs)) >>= λ xs. Ok (made ++ xs)) ≡ (g >>= λ xs. Ok ((made ++ x ∷ []) ++ xs))
more_of (Ok xs) made x = λ i. Ok (sym (append_assoc made (x ∷ []) xs) i)
more_of (Err e) made x = refl

pub one_literal : (t : LogicType) (made : List Logic) (i : ℕ) (ps : List ℤ) (p : ℤ) (x : Logic) → drop i ps ≡ p ∷ drop (i + 1) ps → logic_at t p ≡ Ok x →
    (logics_at t (drop i ps) >>= λ xs. Ok (made ++ xs)) ≡ (logics_at t (drop (i + 1) ps) >>= λ xs. Ok ((made ++ x ∷ []) ++ xs))
one_literal t made i ps p x split e =
    ap (λ qs. logics_at t qs >>= λ xs. Ok (made ++ xs)) split
    ∙ ap (λ g. (g >>= λ y. logics_at t (drop (i + 1) ps) >>= λ xs. Ok (y ∷ xs)) >>= λ xs. Ok (made ++ xs)) e
    ∙ more_of (logics_at t (drop (i + 1) ps)) made x

pub no_literal : (t : LogicType) (made : List Logic) (i : ℕ) (ps : List ℤ) (p : ℤ) (k : StopKind) → drop i ps ≡ p ∷ drop (i + 1) ps → logic_at t p ≡ Err k →
    (logics_at t (drop i ps) >>= λ xs. Ok (made ++ xs)) ≡ Err k
no_literal t made i ps p k split e =
    ap (λ qs. logics_at t qs >>= λ xs. Ok (made ++ xs)) split
    ∙ ap (λ g. (g >>= λ y. logics_at t (drop (i + 1) ps) >>= λ xs. Ok (y ∷ xs)) >>= λ xs. Ok (made ++ xs)) e

-- ---- orders

pub one_ordered : (xs ys : List ℤ) (i : ℕ) (x : ℤ) → drop i xs ≡ x ∷ drop (i + 1) xs → drop i ys ≡ x ∷ drop (i + 1) ys → int_eq x x ≡ true →
    list_order (drop i xs) (drop i ys) ≡ list_order (drop (i + 1) xs) (drop (i + 1) ys)
one_ordered xs ys i x e f same = (λ j. list_order (e j) (f j)) ∙ ap (λ b. if b then list_order (drop (i + 1) xs) (drop (i + 1) ys) else order_of x x) same

pub two_ordered : (xs ys : List ℤ) (i : ℕ) (x y : ℤ) → drop i xs ≡ x ∷ drop (i + 1) xs → drop i ys ≡ y ∷ drop (i + 1) ys → int_eq x y ≡ false →
    list_order (drop i xs) (drop i ys) ≡ order_of x y
two_ordered xs ys i x y e f apart = (λ j. list_order (e j) (f j)) ∙ ap (λ b. if b then list_order (drop (i + 1) xs) (drop (i + 1) ys) else order_of x y) apart

pub split_at : {A : Type 0} (xs : List A) (i : ℕ) (d : A) → i < length xs → drop i xs ≡ get_or xs i d ∷ drop (i + 1) xs
split_at xs i d below = let same : suc i ≡ i + 1 = omega arith in drop-cons xs i d below ∙ ap (λ j. get_or xs i d ∷ drop j xs) same

-- one list ends first
pub shorter_first : (xs ys : List ℤ) (i : ℕ) → length xs ≤ i → i < length ys → list_order (drop i xs) (drop i ys) ≡ Less
shorter_first xs ys i end below =
    let e : drop i xs ≡ [] = drop_all xs i end in
    let f : drop i ys ≡ get_or ys i (pos 0) ∷ drop (i + 1) ys = split_at ys i (pos 0) below in
    λ j. list_order (e j) (f j)

pub longer_first : (xs ys : List ℤ) (i : ℕ) → i < length xs → length ys ≤ i → list_order (drop i xs) (drop i ys) ≡ Greater
longer_first xs ys i below end =
    let e : drop i ys ≡ [] = drop_all ys i end in
    let f : drop i xs ≡ get_or xs i (pos 0) ∷ drop (i + 1) xs = split_at xs i (pos 0) below in
    λ j. list_order (f j) (e j)

pub combined_long : (o : LogicalOperator) (xs ys : List Logic) → length xs ≡ length ys → length (combined o xs ys) ≡ length xs
combined_long o [] ys h = refl
combined_long o (x ∷ xs) [] h = absurd (omega arith)
combined_long o (x ∷ xs) (y ∷ ys) h = ap suc (combined_long o xs ys (omega arith))
