-- The arguments of a call, found among what is known of the elements of a list in brackets.
use Rattle.std.proofs.Common.{◌≡◌, ◌||◌, ◌∙◌, ◌∷◌, Bool, List, None, Option, Some, [], ap, false, if◌then◌else◌, map, refl, suc, sym, true, zero, ℕ}
use Rattle.std.specs.List.{list_any}
use Rattle.vd_environments.specs.Environments.{Env, unknown}
use Rattle.vd_forest.specs.Forest.{Forest}
use Rattle.vd_value_rules.specs.declared.forms.IndicatedForm.{IndicatedForm}
use Rattle.vd_meaning.specs.Brackets.{argument_in, arguments_for, is_positional, named_argument, names_it, nth_positional, or_else}
use Rattle.vd_meaning.specs.Facets.{Choice, Meaning, known_of}
use Rattle.vd_static_values.specs.Entries.{IsFound}
use Rattle.vd_static_values.specs.Nodes.{AreNodes, IsNode}
use Rattle.vd_static_values.specs.Senses.{association_of}
use Rattle.vd_static_values.specs.declared.nodes.Node.{Node}
use Rattle.vd_static_names.proofs.StopLemmas.{left_true, right_true}
use Rattle.vd_static_nodes.specs.Arguments.{argument_for, element_at, element_naming, is_parameter, value_in, values_for}
use Rattle.vd_static_values.specs.Operands.{AreOperands}

named_in : (p : ℕ) (cs : List Choice) → list_any (names_it p) cs ≡ list_any (is_parameter p) (map (λ c. c.named) cs)
named_in p [] = refl
named_in p (c ∷ cs) = ap (λ b. names_it p c || b) (named_in p cs)

module _ (subtypes : List (Forest IndicatedForm)) (e : Env) where
  -- a locally static element, where there is one
  abbrev IsMatch : Option Node → Option Meaning → Type 0
  IsMatch None None = Unit {0}
  IsMatch None (Some m) = ⊥
  IsMatch (Some x) None = ⊥
  IsMatch (Some x) (Some m) = IsNode subtypes e x m × ((m.known e).is_local ≡ true)

  chosen_match : (x y : Option Node) (m n : Option Meaning) (b c : Bool) → b ≡ c → IsMatch x m → IsMatch y n → IsMatch (if b then x else y) (if c then m else n)
  chosen_match x y m n true true same one other = one
  chosen_match x y m n true false same one other = absurd (cc)
  chosen_match x y m n false true same one other = absurd (cc)
  chosen_match x y m n false false same one other = other

  naming_match : (p : ℕ) (xs : List Node) (ms : List Meaning) → AreNodes subtypes e xs ms → (known_of ms e).is_local ≡ true
      → IsMatch (element_naming p xs) (named_argument p ms)
  naming_match p [] [] nodes local = tt
  naming_match p [] (m ∷ ms) nodes local = absurd nodes
  naming_match p (x ∷ xs) [] nodes local = absurd nodes
  naming_match p (x ∷ xs) (m ∷ ms) nodes local =
      chosen_match (Some x) (element_naming p xs) (Some m) (named_argument p ms) (list_any (is_parameter p) x.sense.choices.items) (list_any (names_it p) m.choices)
      (ap (list_any (is_parameter p)) (sym nodes.0.sense.choices) ∙ sym (named_in p m.choices))
      (nodes.0, left_true (m.known e).is_local (known_of ms e).is_local local)
      (naming_match p xs ms nodes.1 (right_true (m.known e).is_local (known_of ms e).is_local local))

  place_match : (n : ℕ) (xs : List Node) (ms : List Meaning) → AreNodes subtypes e xs ms → (known_of ms e).is_local ≡ true
      → IsMatch (element_at n xs) (nth_positional n ms)
  place_match n [] [] nodes local = tt
  place_match n [] (m ∷ ms) nodes local = absurd nodes
  place_match n (x ∷ xs) [] nodes local = absurd nodes
  place_match zero (x ∷ xs) (m ∷ ms) nodes local =
      chosen_match (Some x) None (Some m) None (is_positional (association_of x.sense.association)) (is_positional m.association)
      (ap is_positional (sym nodes.0.sense.association))
      (nodes.0, left_true (m.known e).is_local (known_of ms e).is_local local) tt
  place_match (suc n) (x ∷ xs) (m ∷ ms) nodes local =
      chosen_match (element_at n xs) None (nth_positional n ms) None (is_positional (association_of x.sense.association)) (is_positional m.association)
      (ap is_positional (sym nodes.0.sense.association))
      (place_match n xs ms nodes.1 (right_true (m.known e).is_local (known_of ms e).is_local local)) tt

  either_match : (x y : Option Node) (m n : Option Meaning) → IsMatch x m → IsMatch y n → IsMatch (or_else x y) (or_else m n)
  either_match None y None n one other = other
  either_match None y (Some m) n one other = absurd one
  either_match (Some x) y None n one other = absurd one
  either_match (Some x) y (Some m) n one other = one

  match_found : (x : Option Node) (m : Option Meaning) → IsMatch x m → IsFound (value_in x) (argument_in m e unknown)
  match_found None None is = refl
  match_found None (Some m) is = absurd is
  match_found (Some x) None is = absurd is
  match_found (Some x) (Some m) is = is.0.sense.value is.1 unknown

  -- the values of locally static arguments are operands
  pub arguments_found : (k : ℕ) (ps : List ℕ) (xs : List Node) (ms : List Meaning) → AreNodes subtypes e xs ms → (known_of ms e).is_local ≡ true
      → AreOperands (arguments_for k ps ms e) (values_for k ps xs)
  arguments_found k [] xs ms nodes local = tt
  arguments_found k (p ∷ ps) xs ms nodes local =
      let named = naming_match p xs ms nodes local in
      let placed = place_match k xs ms nodes local in
      let one = either_match (element_naming p xs) (element_at k xs) (named_argument p ms) (nth_positional k ms) named placed in
      (match_found (argument_for k p xs) (or_else (named_argument p ms) (nth_positional k ms)) one, arguments_found (suc k) ps xs ms nodes local)
