-- The element for a generic, found among what the elements come to.
use Rattle.std.proofs.Common.{◌≡◌, ◌∙◌, ◌∷◌, Bool, List, None, Option, Some, [], ap, false, if◌then◌else◌, is_some, map, refl, slice_get, subst, sym, suc, true, zero, ℕ}
use Rattle.std.specs.Global.{Global}
use Rattle.std.specs.Prelude.{Err, IfOk, Ok, Result, Vec}
use Rattle.vd_environments.specs.Environments.{Env}
use Rattle.vd_forest.specs.Forest.{Forest}
use Rattle.vd_value_rules.specs.declared.forms.IndicatedForm.{IndicatedForm}
use Rattle.vd_known_generics.specs.Elements.{AreElements, IsElement, IsGiven, either, element_for, element_placed, formal_in, formal_of, given_by, naming, unless_named, unless_open}
use Rattle.vd_known_designs.specs.Contents.{or_nothing}
use Rattle.vd_meaning.specs.Facets.{Choice, MapElement, Meaning}
use Rattle.vd_meaning.specs.Generics as generics
use Rattle.vd_meaning.specs.Meanings.{formal_named, map_element, meanings}
use Rattle.vd_meaning.specs.Tables.{Table, same_type}
use Rattle.vd_resolved.specs.declared.node.Resolved.{Resolved}
use Rattle.vd_static_values.specs.Nodes.{AreNodes, IsNode}
use Rattle.vd_static_values.specs.Senses.{association_of}
use Rattle.vd_static_values.specs.declared.nodes.Node.{Node}
use Rattle.vd_static_values.specs.declared.senses.Association.{Association}
use Rattle.vd_static_values.specs.declared.senses.Association.TheVariants.{ByChoices, ForOthers, Positional}

formal_by : (a : Association) (cs : List Choice) → formal_named (association_of a) cs ≡ formal_in a (map (λ c. c.named) cs)
formal_by ByChoices [] = refl
formal_by ByChoices (c ∷ cs) = refl
formal_by Positional cs = refl
formal_by ForOthers cs = refl

module _ (e : Env) where
  -- ---- elements by their nodes

  is_element : (subtypes : List (Forest IndicatedForm)) (x : Node) (m : Meaning) → IsNode subtypes e x m → IsElement e x (map_element m)
  is_element subtypes x m is = record {
    formal = ap (λ a. formal_named a m.choices) is.sense.association ∙ formal_by x.sense.association m.choices ∙ ap (formal_in x.sense.association) is.sense.choices;
    is_open = is.sense.is_open;
    known = is.sense.known;
    value = is.sense.value;
  }

  pub are_elements : (subtypes : List (Forest IndicatedForm)) (xs : List Node) (ms : List Meaning) → AreNodes subtypes e xs ms → AreElements e xs (map map_element ms)
  are_elements subtypes [] [] are = tt
  are_elements subtypes [] (m ∷ ms) are = absurd are
  are_elements subtypes (x ∷ xs) [] are = absurd are
  are_elements subtypes (x ∷ xs) (m ∷ ms) are = (is_element subtypes x m are.0, are_elements subtypes xs ms are.1)

  -- ---- the element for a generic

  abbrev IsMatch : Option Node → Option MapElement → Type 0
  IsMatch None None = Unit {0}
  IsMatch (Some x) (Some y) = IsElement e x y
  IsMatch _ _ = ⊥

  chosen_match : (x x' : Option Node) (y y' : Option MapElement) (b c : Bool) → b ≡ c → IsMatch x y → IsMatch x' y' → IsMatch (if b then x else x') (if c then y else y')
  chosen_match x x' y y' true true same one other = one
  chosen_match x x' y y' true false same one other = absurd (cc)
  chosen_match x x' y y' false true same one other = absurd (cc)
  chosen_match x x' y y' false false same one other = other

  naming_match : (g : ℕ) (xs : List Node) (ys : List MapElement) → AreElements e xs ys → IsMatch (naming g xs) (generics.named_element g ys)
  naming_match g [] [] are = tt
  naming_match g [] (y ∷ ys) are = absurd are
  naming_match g (x ∷ xs) [] are = absurd are
  naming_match g (x ∷ xs) (y ∷ ys) are =
      chosen_match (Some x) (naming g xs) (Some y) (generics.named_element g ys) (same_type (formal_of x) (Some g)) (same_type y.formal (Some g))
      (ap (λ f. same_type f (Some g)) (sym are.0.formal)) are.0 (naming_match g xs ys are.1)

  placed_match : (k : ℕ) (xs : List Node) (ys : List MapElement) → AreElements e xs ys → IsMatch (element_placed k xs) (generics.nth_element k ys)
  placed_match k [] [] are = tt
  placed_match k [] (y ∷ ys) are = absurd are
  placed_match k (x ∷ xs) [] are = absurd are
  placed_match zero (x ∷ xs) (y ∷ ys) are =
      chosen_match None (Some x) None (Some y) (is_some (formal_of x)) (is_some y.formal) (ap is_some (sym are.0.formal)) tt are.0
  placed_match (suc k) (x ∷ xs) (y ∷ ys) are = placed_match k xs ys are.1

  either_match : (x x' : Option Node) (y y' : Option MapElement) → IsMatch x y → IsMatch x' y' → IsMatch (either x x') (generics.or_placed y y')
  either_match None x' None y' one other = other
  either_match None x' (Some y) y' one other = absurd one
  either_match (Some x) x' None y' one other = absurd one
  either_match (Some x) x' (Some y) y' one other = one

  open_match : (x : Option Node) (y : Option MapElement) → IsMatch x y → IsMatch (unless_open x) (generics.unless_open y)
  open_match None None is = tt
  open_match None (Some y) is = absurd is
  open_match (Some x) None is = absurd is
  open_match (Some x) (Some y) is = chosen_match None (Some x) None (Some y) x.sense.is_open y.is_open (sym is.is_open) tt is

  given_match : (x : Option Node) (y : Option MapElement) → IsMatch x y → IsGiven (given_by x) (generics.value_in y e) (generics.value_known y e)
  given_match None None is = tt
  given_match None (Some y) is = absurd is
  given_match (Some x) None is = absurd is
  given_match (Some x) (Some y) is = record { known_is = is.known; value_is = is.value }

  pub given_for : (k g : ℕ) (xs : List Node) (ys : List MapElement) → AreElements e xs ys
      → IsGiven (given_by (element_for k g xs)) (generics.value_in (generics.element_for k g ys) e) (generics.value_known (generics.element_for k g ys) e)
  given_for k g xs ys are =
      given_match (element_for k g xs) (generics.element_for k g ys)
      (open_match (either (naming g xs) (element_placed k xs)) (generics.or_placed (generics.named_element g ys) (generics.nth_element k ys))
      (either_match (naming g xs) (element_placed k xs) (generics.named_element g ys) (generics.nth_element k ys)
      (naming_match g xs ys are) (placed_match k xs ys are)))

-- those of a map that is there
pub elements_found : {E : Type 0} (t : Table) (e : Env) (fs : List (Forest IndicatedForm)) (o : Option (Forest Resolved)) (f : Forest Resolved) (r : Result (Vec Node Global) E) → o ≡ Some f
    → IfOk r (λ xs. AreNodes fs e xs.items (meanings t f)) → IfOk r (λ xs. AreElements e xs.items (map map_element (meanings t (or_nothing o))))
elements_found t e fs o f (Ok xs) is are =
    subst (λ g. AreElements e xs.items (map map_element (meanings t (or_nothing g)))) (sym is) (are_elements e fs xs.items (meanings t f) are)
elements_found t e fs o f (Err err) is are = tt
