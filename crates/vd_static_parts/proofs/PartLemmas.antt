-- Parts of nodes: one by its number, the last one, and what is known of all of them.
use Rattle.std.proofs.Common.{◌≡◌, ◌-◌, List, None, Some, [], arith, get_or, length, refl, slice_get, subst, suc, true, zero, ◌∷◌, ℕ}
use Rattle.std.proofs.lemmas.Option.{slice_get-get_or, slice_get_within}
use Rattle.std.specs.List.{All}
use Rattle.vd_environments.specs.Environments.{Env}
use Rattle.vd_forest.specs.Forest.{Forest}
use Rattle.vd_value_rules.specs.declared.forms.IndicatedForm.{IndicatedForm}
use Rattle.vd_meaning.specs.Facets.{Meaning, known_of, last_of, no_meaning, nth}
use Rattle.vd_static_values.specs.Nodes.{AreNodes, IsNode}
use Rattle.vd_static_values.specs.declared.nodes.Node.{Node}
use Rattle.vd_static_names.proofs.StopLemmas.{left_true, right_true}
use Rattle.vd_static_parts.specs.Made.{IsSound}
use Rattle.vd_static_parts.specs.Parts.{IsPart}

-- a part by its number, which may be past the last one
pub nth_part : (subtypes : List (Forest IndicatedForm)) (e : Env) (n : ℕ) (xs : List Node) (ms : List Meaning)
    → AreNodes subtypes e xs ms → IsPart subtypes e (slice_get xs n) (nth n ms)
nth_part subtypes e n [] [] are = refl
nth_part subtypes e n [] (m ∷ ms) are = absurd are
nth_part subtypes e n (x ∷ xs) [] are = absurd are
nth_part subtypes e zero (x ∷ xs) (m ∷ ms) are = are.0
nth_part subtypes e (suc n) (x ∷ xs) (m ∷ ms) are = nth_part subtypes e n xs ms are.1

-- where the code has found it, or has found none
pub nth_here : (subtypes : List (Forest IndicatedForm)) (e : Env) (n : ℕ) (xs : List Node) (ms : List Meaning) (x : Node)
    → AreNodes subtypes e xs ms → slice_get xs n ≡ Some x → IsNode subtypes e x (nth n ms)
nth_here subtypes e n xs ms x are is = subst (λ o. IsPart subtypes e o (nth n ms)) is (nth_part subtypes e n xs ms are)

pub nth_missing : (subtypes : List (Forest IndicatedForm)) (e : Env) (n : ℕ) (xs : List Node) (ms : List Meaning)
    → AreNodes subtypes e xs ms → slice_get xs n ≡ None → nth n ms ≡ no_meaning
nth_missing subtypes e n xs ms are is = subst (λ o. IsPart subtypes e o (nth n ms)) is (nth_part subtypes e n xs ms are)

-- a part is locally static where all parts are
pub nth_local : (subtypes : List (Forest IndicatedForm)) (e : Env) (n : ℕ) (xs : List Node) (ms : List Meaning) (x : Node)
    → AreNodes subtypes e xs ms → slice_get xs n ≡ Some x → (known_of ms e).is_local ≡ true → ((nth n ms).known e).is_local ≡ true
nth_local subtypes e n [] ms x are is local = absurd (cc)
nth_local subtypes e n (y ∷ xs) [] x are is local = absurd are
nth_local subtypes e zero (y ∷ xs) (m ∷ ms) x are is local = left_true (m.known e).is_local (known_of ms e).is_local local
nth_local subtypes e (suc n) (y ∷ xs) (m ∷ ms) x are is local =
    nth_local subtypes e n xs ms x are.1 is (right_true (m.known e).is_local (known_of ms e).is_local local)

-- the last part
last_at : (subtypes : List (Forest IndicatedForm)) (e : Env) (k : ℕ) (xs : List Node) (ms : List Meaning)
    → length xs ≡ suc k → AreNodes subtypes e xs ms → IsPart subtypes e (slice_get xs k) (last_of ms)
last_at subtypes e k [] ms is are = absurd (omega arith)
last_at subtypes e k (x ∷ xs) [] is are = absurd are
last_at subtypes e zero (x ∷ []) (m ∷ []) is are = are.0
last_at subtypes e zero (x ∷ []) (m ∷ n ∷ ms) is are = absurd are.1
last_at subtypes e zero (x ∷ y ∷ xs) (m ∷ ms) is are = absurd (omega arith)
last_at subtypes e (suc k) (x ∷ []) (m ∷ ms) is are = absurd (omega arith)
last_at subtypes e (suc k) (x ∷ y ∷ xs) (m ∷ []) is are = absurd are.1
last_at subtypes e (suc k) (x ∷ y ∷ xs) (m ∷ n ∷ ms) is are = last_at subtypes e k (y ∷ xs) (n ∷ ms) (omega arith) are.1

pub last_part : (subtypes : List (Forest IndicatedForm)) (e : Env) (xs : List Node) (ms : List Meaning)
    → AreNodes subtypes e xs ms → IsPart subtypes e (slice_get xs (length xs - 1)) (last_of ms)
last_part subtypes e [] [] are = refl
last_part subtypes e [] (m ∷ ms) are = absurd are
last_part subtypes e (x ∷ xs) ms are = last_at subtypes e (length (x ∷ xs) - 1) (x ∷ xs) ms (omega arith) are

-- a part of what is sound is sound
pub sound_part : (subtypes : List (Forest IndicatedForm)) (xs : List Node) (n : ℕ) (x : Node)
    → All (IsSound subtypes) xs → slice_get xs n ≡ Some x → IsSound subtypes x
sound_part subtypes xs n x all is =
    let within = slice_get_within xs n x is in
    let got = slice_get-get_or xs n x within in
    let same : get_or xs n x ≡ x = cc in
    subst (IsSound subtypes) same (all n x within)
