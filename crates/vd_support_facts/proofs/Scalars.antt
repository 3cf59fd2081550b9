-- The functions on values, for each value.
use Rattle.std.specs.Prelude.{◌≡◌, Bool, true, false, [], ◌∷◌, Ok}
use Rattle.std.proofs.Common.{refl}
use Rattle.std.specs.Fmt.{digits}
use Rattle.vd_predefined.specs.Table.{standard_types, standard_operators, logic_types, logic_operators}
use Rattle.vd_values.specs.declared.logic.Logic.{Logic}
use Rattle.vd_values.specs.declared.logic.Logic.TheVariants.{U, X, Zero, One, Z, W, L, H, Dash}
use Rattle.vd_vectors.specs.declared.orders.Relation.TheVariants.{IsLess, IsAtMost, IsGreater, IsAtLeast}
use Rattle.vd_vectors.specs.Support as vectors
use Rattle.vd_operators.specs.Support as texts
use Rattle.vd_support_facts.specs.MatchingBodies.{vd_cond, vd_eq, vd_eqb, vd_ltb, vd_leb, vd_gtb, vd_geb}
use Rattle.vd_support_facts.specs.TextBodies.{vd_str}
use Rattle.vd_support_facts.specs.Calls.{called}
use Rattle.vd_support_facts.specs.Scalars.{FunctionsOfValues}

condition : (a : Logic) → called (vd_cond ∷ []) (vectors.value a ∷ []) ≡ Ok (vectors.vd_cond a)
unfolding standard_types standard_operators logic_types logic_operators digits
condition U = refl
condition X = refl
condition Zero = refl
condition One = refl
condition Z = refl
condition W = refl
condition L = refl
condition H = refl
condition Dash = refl

text : (a : Logic) → called (vd_str ∷ []) (vectors.value a ∷ []) ≡ Ok (texts.vd_str a)
unfolding standard_types standard_operators logic_types logic_operators digits
text U = refl
text X = refl
text Zero = refl
text One = refl
text Z = refl
text W = refl
text L = refl
text H = refl
text Dash = refl

equal : (l r : Logic) → called (vd_eq ∷ []) (vectors.value l ∷ vectors.value r ∷ []) ≡ Ok (vectors.vd_eq l r)
unfolding standard_types standard_operators logic_types logic_operators digits
equal U U = refl
equal U X = refl
equal U Zero = refl
equal U One = refl
equal U Z = refl
equal U W = refl
equal U L = refl
equal U H = refl
equal U Dash = refl
equal X U = refl
equal X X = refl
equal X Zero = refl
equal X One = refl
equal X Z = refl
equal X W = refl
equal X L = refl
equal X H = refl
equal X Dash = refl
equal Zero U = refl
equal Zero X = refl
equal Zero Zero = refl
equal Zero One = refl
equal Zero Z = refl
equal Zero W = refl
equal Zero L = refl
equal Zero H = refl
equal Zero Dash = refl
equal One U = refl
equal One X = refl
equal One Zero = refl
equal One One = refl
equal One Z = refl
equal One W = refl
equal One L = refl
equal One H = refl
equal One Dash = refl
equal Z U = refl
equal Z X = refl
equal Z Zero = refl
equal Z One = refl
equal Z Z = refl
equal Z W = refl
equal Z L = refl
equal Z H = refl
equal Z Dash = refl
equal W U = refl
equal W X = refl
equal W Zero = refl
equal W One = refl
equal W Z = refl
equal W W = refl
equal W L = refl
equal W H = refl
equal W Dash = refl
equal L U = refl
equal L X = refl
equal L Zero = refl
equal L One = refl
equal L Z = refl
equal L W = refl
equal L L = refl
equal L H = refl
equal L Dash = refl
equal H U = refl
equal H X = refl
equal H Zero = refl
equal H One = refl
equal H Z = refl
equal H W = refl
equal H L = refl
equal H H = refl
equal H Dash = refl
equal Dash U = refl
equal Dash X = refl
equal Dash Zero = refl
equal Dash One = refl
equal Dash Z = refl
equal Dash W = refl
equal Dash L = refl
equal Dash H = refl
equal Dash Dash = refl

equal_bits : (l r : Bool) → called (vd_eqb ∷ []) (vectors.bit l ∷ vectors.bit r ∷ []) ≡ Ok (vectors.vd_eqb l r)
unfolding standard_types standard_operators logic_types logic_operators digits
equal_bits false false = refl
equal_bits false true = refl
equal_bits true false = refl
equal_bits true true = refl

less : (l r : Bool) → called (vd_ltb ∷ []) (vectors.bit l ∷ vectors.bit r ∷ []) ≡ Ok (vectors.vd_comparison IsLess l r)
unfolding standard_types standard_operators logic_types logic_operators digits
less false false = refl
less false true = refl
less true false = refl
less true true = refl

at_most : (l r : Bool) → called (vd_leb ∷ []) (vectors.bit l ∷ vectors.bit r ∷ []) ≡ Ok (vectors.vd_comparison IsAtMost l r)
unfolding standard_types standard_operators logic_types logic_operators digits
at_most false false = refl
at_most false true = refl
at_most true false = refl
at_most true true = refl

greater : (l r : Bool) → called (vd_gtb ∷ []) (vectors.bit l ∷ vectors.bit r ∷ []) ≡ Ok (vectors.vd_comparison IsGreater l r)
unfolding standard_types standard_operators logic_types logic_operators digits
greater false false = refl
greater false true = refl
greater true false = refl
greater true true = refl

at_least : (l r : Bool) → called (vd_geb ∷ []) (vectors.bit l ∷ vectors.bit r ∷ []) ≡ Ok (vectors.vd_comparison IsAtLeast l r)
unfolding standard_types standard_operators logic_types logic_operators digits
at_least false false = refl
at_least false true = refl
at_least true false = refl
at_least true true = refl

pub functions_of_values : FunctionsOfValues
functions_of_values =
    record {
      condition = condition;
      equal = equal;
      equal_bits = equal_bits;
      less = less;
      at_most = at_most;
      greater = greater;
      at_least = at_least;
      text = text;
    }
