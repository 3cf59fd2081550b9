-- A constant that stands for its actual or its default.
use Rattle.std.proofs.Common.{◌≡◌, ◌∷◌, ◌∙◌, List, None, Option, Some, ap, subst, sym, true, ℕ}
use Rattle.std.specs.Prelude.{Err, Ok, OnOk, Result}
use Rattle.vd_composites.specs.Composites.{Value}
use Rattle.vd_composites.specs.Subtypes.{Subtype}
use Rattle.vd_environments.specs.Environments.{Argument, Static}
use Rattle.vd_environments.specs.Got.{Got}
use Rattle.vd_forest.specs.Forest.{Forest}
use Rattle.vd_value_rules.specs.Indicated.{static_of}
use Rattle.vd_value_rules.specs.declared.forms.IndicatedForm.{IndicatedForm}
use Rattle.vd_known_generics.specs.Elements.{IsGiven}
use Rattle.vd_known_generics.specs.declared.elements.Given.{Given}
use Rattle.vd_known_designs.specs.Designs.{Knows}
use Rattle.vd_known_designs.specs.declared.design.KnownDesign.{KnownDesign}
use Rattle.vd_meaning.specs.Facets.{Meaning}
use Rattle.vd_static_values.specs.Entries.{IsFound}
use Rattle.vd_static_values.specs.Senses.{IsSense}
use Rattle.vd_static_values.specs.declared.senses.Sense.{Sense}
use Rattle.vd_value_rules.specs.Declaring.{from_actual, static_of_actual}
use Rattle.vd_value_rules.specs.Designs.{Design}
use Rattle.vd_value_rules.specs.Knowledge.{Known, TwoIndicated, constant_of, early_value}
use Rattle.vd_value_rules.specs.declared.statics.StaticSort.{StaticSort}
use Rattle.vd_values.specs.declared.scalar.Scalar.{Scalar}

module _ {A E : Type 0} (r : Result A E) (d : Design) (y : KnownDesign) (m : Meaning) (i : TwoIndicated) (n : ℕ) (k : Known) (ks : List Known) where
  -- what is known where it is so static and has such a value
  abbrev Declares : Option (Value Scalar) → StaticSort → Type 0
  Declares value known =
      (argument : Argument) → (known.is_local ≡ true → (given : Got Subtype) → IsFound value (argument given))
      → OnOk r (Knows d y (constant_of n i (static_of known) (early_value (static_of known) argument i.own) k ∷ ks))

  abbrev Stand : Option Argument → Static → Type 0
  Stand v s = OnOk r (Knows d y (constant_of n i (static_of_actual v s m k.env) (from_actual v s m i.own k.env) k ∷ ks))

  by_actual : (g : Given) (v : Option Argument) (s : Static) → IsGiven (Some g) v s → Declares g.value g.known → Stand v s
  by_actual g None s is set = absurd is
  by_actual g (Some argument) s is set =
      subst (λ t. OnOk r (Knows d y (constant_of n i t (early_value t argument i.own) k ∷ ks))) is.known_is
      (set argument (λ local given. is.value_is (sym (ap (λ t. t.is_local) is.known_is) ∙ local) given))

  by_default : (fs : List (Forest IndicatedForm)) (sense : Sense) (v : Option Argument) (s : Static) → IsGiven None v s → IsSense fs k.env sense m
      → Declares sense.value sense.known → Stand v s
  by_default fs sense (Some argument) s is of set = absurd is
  by_default fs sense None s is of set =
      subst (λ t. OnOk r (Knows d y (constant_of n i t (early_value t (λ given. m.value given k.env) i.own) k ∷ ks))) of.known
      (set (λ given. m.value given k.env) (λ local given. of.value (sym (ap (λ t. t.is_local) of.known) ∙ local) given))

  pub given_stands : (given : Option Given) (g : Given) (v : Option Argument) (s : Static) → given ≡ Some g → IsGiven given v s → Declares g.value g.known → Stand v s
  given_stands given g v s found is set = by_actual g v s (subst (λ o. IsGiven o v s) found is) set

  pub default_stands : (fs : List (Forest IndicatedForm)) (given : Option Given) (sense : Sense) (v : Option Argument) (s : Static) → given ≡ None → IsGiven given v s
      → IsSense fs k.env sense m → Declares sense.value sense.known → Stand v s
  default_stands fs given sense v s none is of set = by_default fs sense v s (subst (λ o. IsGiven o v s) none is) of set
