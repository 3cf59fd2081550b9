-- What is known of all parts of a node: how static they are, and their values.
use Rattle.std.proofs.Common.{◌≡◌, ◌++◌, ◌+◌, ◌<◌, ◌≤◌, ◌∙◌, List, Option, [], ap, arith, drop, drop-cons, drop_of_length-le, get_or, length, map, refl, subst, suc, sym, take, take_all, true, ◌∷◌, ℕ}
use Rattle.std.proofs.Math.Bool.{and-true, and_assoc}
use Rattle.std.proofs.lemmas.List.{map-append, take_more}
use Rattle.vd_composites.specs.Composites.{Value}
use Rattle.vd_environments.specs.Environments.{Env, Static, all_static, always, both, unknown}
use Rattle.vd_forest.specs.Forest.{Forest}
use Rattle.vd_value_rules.specs.Indicated.{static_of}
use Rattle.vd_value_rules.specs.declared.forms.IndicatedForm.{IndicatedForm}
use Rattle.vd_meaning.specs.Facets.{Meaning, arguments, known_of}
use Rattle.vd_static_values.specs.Nodes.{AreNodes}
use Rattle.vd_static_values.specs.declared.nodes.Node.{Node}
use Rattle.vd_static_names.proofs.StopLemmas.{left_true, right_true}
use Rattle.vd_static_values.specs.Operands.{AreOperands}
use Rattle.vd_values.specs.declared.scalar.Scalar.{Scalar}

-- ---- how static

both_assoc : (a b c : Static) → both (both a b) c ≡ both a (both b c)
both_assoc a b c = λ i. record {
  is_local = and_assoc a.is_local b.is_local c.is_local i;
  is_global = and_assoc a.is_global b.is_global c.is_global i;
}

both_always : (a : Static) → both a always ≡ a
both_always a = λ i. record { is_local = and-true a.is_local i; is_global = and-true a.is_global i }

abbrev pub known_parts : List Node → Static
known_parts xs = all_static (map (λ x. static_of x.sense.known) xs)

pub known_in_parts : (subtypes : List (Forest IndicatedForm)) (e : Env) (xs : List Node) (ms : List Meaning)
    → AreNodes subtypes e xs ms → known_parts xs ≡ known_of ms e
known_in_parts subtypes e [] [] are = refl
known_in_parts subtypes e [] (m ∷ ms) are = absurd are
known_in_parts subtypes e (x ∷ xs) [] are = absurd are
known_in_parts subtypes e (x ∷ xs) (m ∷ ms) are = λ i. both (are.0.sense.known i) (known_in_parts subtypes e xs ms are.1 i)

-- one part more
pub drop_here : (xs : List Node) (i : ℕ) (x : Node) → i < length xs → x ≡ get_or xs i x → drop i xs ≡ x ∷ drop (i + 1) xs
drop_here xs i x within is =
    let next : suc i ≡ i + 1 = omega arith in
    drop-cons xs i x within ∙ ap (λ y. y ∷ drop (suc i) xs) (sym is) ∙ ap (λ j. x ∷ drop j xs) next

pub known_more : (f : Node → Static) (k next own whole : Static) (xs : List Node) (i : ℕ) (x : Node) → i < length xs → x ≡ get_or xs i x → own ≡ f x
    → next ≡ both k own → both k (all_static (map f (drop i xs))) ≡ whole → both next (all_static (map f (drop (i + 1) xs))) ≡ whole
known_more f k next own whole xs i x within is owns more so_far =
    ap (λ t. both t (all_static (map f (drop (i + 1) xs)))) (more ∙ ap (both k) owns)
    ∙ both_assoc k (f x) (all_static (map f (drop (i + 1) xs)))
    ∙ sym (ap (λ ys. both k (all_static (map f ys))) (drop_here xs i x within is))
    ∙ so_far

-- all parts
pub known_of_all : (subtypes : List (Forest IndicatedForm)) (e : Env) (k : Static) (xs : List Node) (ms : List Meaning) (i : ℕ) → length xs ≤ i
    → both k (known_parts (drop i xs)) ≡ known_parts xs → AreNodes subtypes e xs ms → k ≡ known_of ms e
known_of_all subtypes e k xs ms i end is are =
    sym (both_always k) ∙ ap (λ ys. both k (known_parts ys)) (sym (drop_of_length-le xs end)) ∙ is ∙ known_in_parts subtypes e xs ms are

-- ---- values

abbrev pub values_in : List Node → List (Option (Value Scalar))
values_in xs = map (λ x. x.sense.value) xs

pub values_more : (xs : List Node) (i : ℕ) (x : Node) → i < length xs → x ≡ get_or xs i x
    → values_in (take i xs) ++ x.sense.value ∷ [] ≡ values_in (take (i + 1) xs)
values_more xs i x within is =
    ap (λ y. values_in (take i xs) ++ y.sense.value ∷ []) is
    ∙ sym (map-append (λ (y : Node). y.sense.value) (take i xs) (get_or xs i x ∷ []))
    ∙ ap values_in (sym (take_more xs i x within))

-- the values of parts that are locally static are operands
pub part_operands : (subtypes : List (Forest IndicatedForm)) (e : Env) (xs : List Node) (ms : List Meaning)
    → AreNodes subtypes e xs ms → (known_of ms e).is_local ≡ true → AreOperands (arguments ms e) (values_in xs)
part_operands subtypes e [] [] are local = tt
part_operands subtypes e [] (m ∷ ms) are local = absurd are
part_operands subtypes e (x ∷ xs) [] are local = absurd are
part_operands subtypes e (x ∷ xs) (m ∷ ms) are local =
    let own = left_true (m.known e).is_local (known_of ms e).is_local local in
    let others = right_true (m.known e).is_local (known_of ms e).is_local local in
    (are.0.sense.value own unknown, part_operands subtypes e xs ms are.1 others)

pub all_operands : (subtypes : List (Forest IndicatedForm)) (e : Env) (vs : List (Option (Value Scalar))) (xs : List Node) (ms : List Meaning) (i : ℕ) → length xs ≤ i
    → vs ≡ values_in (take i xs) → AreNodes subtypes e xs ms → (known_of ms e).is_local ≡ true → AreOperands (arguments ms e) vs
all_operands subtypes e vs xs ms i end is are local =
    subst (AreOperands (arguments ms e)) (sym (is ∙ ap values_in (take_all i xs end))) (part_operands subtypes e xs ms are local)
