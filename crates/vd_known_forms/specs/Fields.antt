-- Fields of records, for a subtype as it is and as it is for choices.
use Rattle.std.specs.Prelude.{◌∷◌, List, []}
use Rattle.vd_environments.specs.Environments.{Field}
use Rattle.vd_forest.specs.Forest.{Forest}
use Rattle.vd_value_rules.specs.declared.forms.IndicatedForm.{IndicatedForm}
use Rattle.vd_value_rules.specs.Made.{HasFields}
use Rattle.vd_known_designs.specs.declared.indications.TwoSubtypes.{TwoSubtypes}

-- the numbers stand for fields as they are and as they are for choices
pub record AreFields (subtypes : List (Forest IndicatedForm)) (x : TwoSubtypes) (own choosing : List Field) : Type 0 where
  pub own_fields : HasFields subtypes x.own own
  pub choosing_fields : HasFields subtypes x.choosing choosing

-- fields from the first on, each put in front of the ones before
abbrev pub in_front : List Field → List Field → List Field
in_front [] behind = behind
in_front (f ∷ fs) behind = in_front fs (f ∷ behind)
