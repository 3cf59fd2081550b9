-- What one design knows behind declarations of objects.
use Rattle.std.specs.Prelude.{◌≡◌, ◌∷◌, Err, List, Ok, OnOk, Result}
use Rattle.vd_composites.specs.Composites.{Value, bounds_of}
use Rattle.vd_composites.specs.Subtypes.{default_of}
use Rattle.vd_environments.specs.Environments.{Env, Indicated, Static}
use Rattle.vd_environments.specs.Got.{Got}
use Rattle.vd_value_rules.specs.Indicated.{static_of}
use Rattle.vd_known_designs.specs.Designs.{AreIndicated, Knows}
use Rattle.vd_known_designs.specs.declared.design.KnownDesign.{KnownDesign}
use Rattle.vd_known_designs.specs.declared.indications.TwoSubtypes.{TwoSubtypes}
use Rattle.vd_known_forms.specs.declared.constants.ConstantFacts.{ConstantFacts}
use Rattle.vd_meaning.specs.Declarations.{constant_known}
use Rattle.vd_value_rules.specs.Designs.{Design}
use Rattle.vd_value_rules.specs.Knowledge.{Known, TwoIndicated, known_in}
use Rattle.vd_values.specs.declared.scalar.Scalar.{Scalar}

-- for whatever subtypes the numbers stand for, it knows then what a declaration of objects of these declares
abbrev pub DeclaresObjects : {A E : Type 0} → (TwoIndicated → Known → Known) → TwoSubtypes → Result A E → KnownDesign → KnownDesign → Type 0
DeclaresObjects declaring of result old new =
    (d : Design) (i : TwoIndicated) (k : Known) (ks : List Known) → Knows d old (k ∷ ks) → AreIndicated old.table.subtypes of i
    → OnOk result (Knows d new (declaring i k ∷ ks))

-- ---- constants of a subtype whose expression gives this value of it, or stops

abbrev pub value_of : Indicated → Got (Value Scalar) → Value Scalar
value_of i (Ok v) = v
value_of i (Err halt) = default_of i.subtype

-- how static they are where the expression is so static
abbrev pub known_of : Static → Indicated → Got (Value Scalar) → Env → Static
known_of known i (Ok v) e = constant_known known i e
known_of known i (Err halt) e = known_in e

pub record AreFacts (known : Static) (i : Indicated) (g : Got (Value Scalar)) (e : Env) (x : ConstantFacts) : Type 0 where
  pub known_is : static_of x.known ≡ known_of known i g e
  pub shape_is : bounds_of (value_of i g) ≡ x.shape
