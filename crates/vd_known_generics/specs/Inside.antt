-- What is known inside of an instance of a function, where its generics stand for the actuals.
use Rattle.std.specs.Prelude.{◌∷◌, List, ℕ}
use Rattle.vd_forest.specs.Forest.{Forest}
use Rattle.vd_known_designs.specs.Designs.{AreIndicated, Knows}
use Rattle.vd_known_designs.specs.declared.design.KnownDesign.{KnownDesign}
use Rattle.vd_known_designs.specs.declared.indications.TwoSubtypes.{TwoSubtypes}
use Rattle.vd_meaning.specs.Facets.{MapElement}
use Rattle.vd_resolved.specs.declared.node.Resolved.{Resolved}
use Rattle.vd_value_rules.specs.Declaring.{actuals_known, generics_stand, parameters_known}
use Rattle.vd_value_rules.specs.Designs.{Design}
use Rattle.vd_value_rules.specs.Knowledge.{Known, at_mark, meaning_at, parts_at}

abbrev pub inside_of : Design → (function instance : ℕ) → List MapElement → Forest Resolved → Known → Known
inside_of d function instance xs text k =
    parameters_known d (parts_at 4 text) (generics_stand d (parts_at 2 text) (actuals_known d function instance xs k) k)

-- This is known, and the subtypes of the result of the function with this text.
pub record IsInside (d : Design) (x : KnownDesign) (of : TwoSubtypes) (text : Forest Resolved) (from : Known) (ks : List Known) : Type 0 where
  pub knows : Knows d x (from ∷ ks)
  pub result_is : AreIndicated x.table.subtypes of (record { own = at_mark (meaning_at d 5 text).declaration from.env; choosing = at_mark (meaning_at d 5 text).declaration from.choosing })
