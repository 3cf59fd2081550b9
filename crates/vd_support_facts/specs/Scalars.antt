-- The functions of the support package on values of STD_ULOGIC and BIT: their texts give what their operators give, for all values.
use Rattle.std.specs.Prelude.{◌≡◌, Bool, [], ◌∷◌, Ok}
use Rattle.vd_values.specs.declared.logic.Logic.{Logic}
use Rattle.vd_vectors.specs.declared.orders.Relation.TheVariants.{IsLess, IsAtMost, IsGreater, IsAtLeast}
use Rattle.vd_vectors.specs.Support as vectors
use Rattle.vd_operators.specs.Support as texts
use Rattle.vd_support_facts.specs.MatchingBodies.{vd_cond, vd_eq, vd_eqb, vd_ltb, vd_leb, vd_gtb, vd_geb}
use Rattle.vd_support_facts.specs.TextBodies.{vd_str}
use Rattle.vd_support_facts.specs.Calls.{called}

pub record FunctionsOfValues : Type 0 where
  pub condition : (a : Logic) → called (vd_cond ∷ []) (vectors.value a ∷ []) ≡ Ok (vectors.vd_cond a)
  pub equal : (l r : Logic) → called (vd_eq ∷ []) (vectors.value l ∷ vectors.value r ∷ []) ≡ Ok (vectors.vd_eq l r)
  pub equal_bits : (l r : Bool) → called (vd_eqb ∷ []) (vectors.bit l ∷ vectors.bit r ∷ []) ≡ Ok (vectors.vd_eqb l r)
  pub less : (l r : Bool) → called (vd_ltb ∷ []) (vectors.bit l ∷ vectors.bit r ∷ []) ≡ Ok (vectors.vd_comparison IsLess l r)
  pub at_most : (l r : Bool) → called (vd_leb ∷ []) (vectors.bit l ∷ vectors.bit r ∷ []) ≡ Ok (vectors.vd_comparison IsAtMost l r)
  pub greater : (l r : Bool) → called (vd_gtb ∷ []) (vectors.bit l ∷ vectors.bit r ∷ []) ≡ Ok (vectors.vd_comparison IsGreater l r)
  pub at_least : (l r : Bool) → called (vd_geb ∷ []) (vectors.bit l ∷ vectors.bit r ∷ []) ≡ Ok (vectors.vd_comparison IsAtLeast l r)
  pub text : (a : Logic) → called (vd_str ∷ []) (vectors.value a ∷ []) ≡ Ok (texts.vd_str a)
