-- Lists in brackets.
use Rattle.std.proofs.Common.{◌≡◌, ◌≢◌, ◌∙◌, Err, IfOk, List, Ok, Option, Result, [], ap, arith, false, get_or, if◌then◌else◌, length, refl, subst, sym, true, ◌∷◌, ℕ}
use Rattle.vd_composites.specs.Composites.{Value}
use Rattle.vd_composites.specs.Subtypes.{Subtype}
use Rattle.vd_environments.specs.Environments.{Env, Static, only_global}
use Rattle.vd_environments.specs.Got.{Got}
use Rattle.vd_forest.specs.Forest.{Forest}
use Rattle.vd_value_rules.specs.declared.forms.IndicatedForm.{IndicatedForm}
use Rattle.vd_meaning.specs.Brackets.{aggregate, bracketed_known, bracketed_value, is_positional}
use Rattle.vd_meaning.specs.Facets.{Meaning, known_of}
use Rattle.vd_meaning.specs.Facets as facets
use Rattle.vd_static_values.specs.Entries.{IsFound}
use Rattle.vd_static_values.specs.Nodes.{AreNodes, IsNode}
use Rattle.vd_static_values.specs.declared.nodes.Node.{Node}
use Rattle.vd_values.specs.declared.scalar.Scalar.{Scalar}

-- ---- one part

one_part : (xs : List Node) (d : Node) → length xs ≡ 1 → xs ≡ get_or xs 0 d ∷ []
one_part [] d one = absurd (omega arith)
one_part (y ∷ []) d one = refl
one_part (y ∷ z ∷ xs) d one = absurd (omega arith)

alone_of : (subtypes : List (Forest IndicatedForm)) (e : Env) (P : List Meaning → Type 0) (x : Node) (ms : List Meaning)
    → AreNodes subtypes e (x ∷ []) ms → ((m : Meaning) → IsNode subtypes e x m → P (m ∷ [])) → P ms
alone_of subtypes e P x [] are holds = absurd are
alone_of subtypes e P x (m ∷ []) are holds = holds m are.0
alone_of subtypes e P x (m ∷ n ∷ ms) are holds = absurd are.1

-- what holds of one part alone holds of a list that has no other
alone : (subtypes : List (Forest IndicatedForm)) (e : Env) (P : List Meaning → Type 0) (xs : List Node) (d : Node) (ms : List Meaning)
    → length xs ≡ 1 → AreNodes subtypes e xs ms → ((m : Meaning) → IsNode subtypes e (get_or xs 0 d) m → P (m ∷ [])) → P ms
alone subtypes e P xs d ms one are holds =
    alone_of subtypes e P (get_or xs 0 d) ms (subst (λ ys. AreNodes subtypes e ys ms) (one_part xs d one) are) holds

value_by : {A : Type 0} (a : facets.Association) (s : Static) (P : A → Type 0) (v w : A) → (s.is_local ≡ true → P v)
    → (if is_positional a then s else only_global s).is_local ≡ true → P (if is_positional a then v else w)
value_by facets.Positional s P v w found local = found local
value_by facets.ByChoices s P v w found local = absurd (cc)
value_by facets.ForOthers s P v w found local = absurd (cc)

alone_value : (subtypes : List (Forest IndicatedForm)) (e : Env) (x : Node) (m : Meaning) (mark : Option ℕ) (given : Got Subtype)
    → IsNode subtypes e x m → (bracketed_known (m ∷ []) e).is_local ≡ true → IsFound x.sense.value (bracketed_value mark (m ∷ []) given e)
alone_value subtypes e x m mark given is local =
    value_by m.association (m.known e) (λ f. IsFound x.sense.value (f given e)) m.value (aggregate mark (m ∷ [])) (λ own. is.sense.value own given) local

copied : {E : Type 0} (answer : Result (Option (Value Scalar)) E) (v : Option (Value Scalar)) (g : Got (Value Scalar)) → IfOk answer (λ w. w ≡ v) → IsFound v g
    → IfOk answer (λ w. IsFound w g)
copied (Ok w) v g same found = subst (λ u. IsFound u g) (sym same) found
copied (Err why) v g same found = tt

pub alone_found : {E : Type 0} (subtypes : List (Forest IndicatedForm)) (e : Env) (answer : Result (Option (Value Scalar)) E) (xs : List Node) (d : Node) (ms : List Meaning)
    (mark : Option ℕ) (given : Got Subtype) → length xs ≡ 1 → IfOk answer (λ v. v ≡ (get_or xs 0 d).sense.value) → AreNodes subtypes e xs ms
    → (bracketed_known ms e).is_local ≡ true → IfOk answer (λ v. IsFound v (bracketed_value mark ms given e))
alone_found subtypes e answer xs d ms mark given one same are =
    let x = get_or xs 0 d in
    alone subtypes e (λ ns. (bracketed_known ns e).is_local ≡ true → IfOk answer (λ v. IsFound v (bracketed_value mark ns given e))) xs d ms one are
    (λ m is local. copied answer x.sense.value (bracketed_value mark (m ∷ []) given e) same (alone_value subtypes e x m mark given is local))

-- ---- many parts, or none

-- an aggregate is never locally static
pub known_of_many : (subtypes : List (Forest IndicatedForm)) (e : Env) (xs : List Node) (ms : List Meaning)
    → length xs ≢ 1 → AreNodes subtypes e xs ms → only_global (known_of ms e) ≡ bracketed_known ms e
known_of_many subtypes e [] [] many are = refl
known_of_many subtypes e [] (m ∷ ms) many are = absurd are
known_of_many subtypes e (x ∷ xs) [] many are = absurd are
known_of_many subtypes e (x ∷ []) (m ∷ ms) many are = absurd (many refl)
known_of_many subtypes e (x ∷ y ∷ xs) (m ∷ []) many are = absurd are.1
known_of_many subtypes e (x ∷ y ∷ xs) (m ∷ n ∷ ms) many are = refl

pub many_not_local : (subtypes : List (Forest IndicatedForm)) (e : Env) (xs : List Node) (ms : List Meaning)
    → length xs ≢ 1 → AreNodes subtypes e xs ms → (bracketed_known ms e).is_local ≡ true → ⊥
many_not_local subtypes e xs ms many are local =
    let none : false ≡ true = ap (λ (s : Static). s.is_local) (known_of_many subtypes e xs ms many are) ∙ local in cc
