-- What is known of the nodes of resolved trees when the text is analysed. (IEEE 1076, static expressions.)
use Rattle.std.specs.Prelude.{◌≡◌, ◌∷◌, List, [], map, true}
use Rattle.vd_composites.specs.Subtypes.{Subtype}
use Rattle.vd_environments.specs.Environments.{Env}
use Rattle.vd_environments.specs.Got.{Got}
use Rattle.vd_forest.specs.Forest.{Forest}
use Rattle.vd_value_rules.specs.Indicated.{static_of}
use Rattle.vd_value_rules.specs.declared.forms.IndicatedForm.{IndicatedForm}
use Rattle.vd_meaning.specs.Facets.{Meaning}
use Rattle.vd_meaning.specs.Facets as facets
use Rattle.vd_static_values.specs.Entries.{IsFound}
use Rattle.vd_static_values.specs.Names.{IsName, IsRanging}
use Rattle.vd_static_values.specs.declared.senses.Association.{Association}
use Rattle.vd_static_values.specs.declared.senses.Association.TheVariants.{ByChoices, ForOthers, Positional}
use Rattle.vd_static_values.specs.declared.senses.Sense.{Sense}

abbrev pub association_of : Association → facets.Association
association_of Positional = facets.Positional
association_of ByChoices = facets.ByChoices
association_of ForOthers = facets.ForOthers

-- A locally static expression has one value, whatever subtype its place gives.
pub record IsSense (subtypes : List (Forest IndicatedForm)) (e : Env) (s : Sense) (m : Meaning) : Type 0 where
  pub text : m.text ≡ s.text.now
  pub declaration : m.declaration ≡ s.declaration
  pub mark : m.mark ≡ s.mark
  pub position : m.position ≡ s.position
  pub is_present : m.is_present ≡ s.is_present
  pub known : static_of s.known ≡ m.known e
  pub value : (m.known e).is_local ≡ true → (given : Got Subtype) → IsFound s.value (m.value given e)
  pub range : IsRanging s.range m.range (m.known e) e
  pub name : IsName subtypes e s.name m.name
  pub association : m.association ≡ association_of s.association
  pub choices : map (λ c. c.named) m.choices ≡ s.choices.items
  pub is_open : m.is_open ≡ s.is_open

abbrev pub AreSenses : List (Forest IndicatedForm) → Env → List Sense → List Meaning → Type 0
AreSenses subtypes e [] [] = Unit {0}
AreSenses subtypes e (s ∷ ss) (m ∷ ms) = IsSense subtypes e s m × AreSenses subtypes e ss ms
AreSenses subtypes e _ _ = ⊥
