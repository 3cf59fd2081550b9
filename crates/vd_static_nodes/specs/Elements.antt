-- Elements of lists in brackets, by what is known of their nodes. (IEEE 1076, aggregates; association lists.)
use Rattle.std.specs.Prelude.{◌≡◌, ◌∷◌, List, Option, [], true, ℕ}
use Rattle.vd_composites.specs.Subtypes.{Subtype}
use Rattle.vd_environments.specs.Environments.{Env}
use Rattle.vd_environments.specs.Got.{Got}
use Rattle.vd_forest.specs.Forest.{Forest}
use Rattle.vd_value_rules.specs.declared.forms.IndicatedForm.{IndicatedForm}
use Rattle.vd_meaning.specs.Facets.{Meaning, known_of, nth}
use Rattle.vd_static_values.specs.Entries.{IsFound}
use Rattle.vd_static_values.specs.Names.{IsRanging}
use Rattle.vd_static_values.specs.Nodes.{IsNode}
use Rattle.vd_static_values.specs.declared.nodes.Node.{Node}

-- what each choice names that the first part has
abbrev pub choices_in : List Node → List (Option ℕ)
choices_in [] = []
choices_in (x ∷ xs) = x.sense.choices.items

-- the expression of an element, where all its parts are locally static
pub record IsExpression (subtypes : List (Forest IndicatedForm)) (e : Env) (ms : List Meaning) (x : Node) : Type 0 where
  pub node : IsNode subtypes e x (nth 1 ms)
  pub value : (known_of ms e).is_local ≡ true → (given : Got Subtype) → IsFound x.sense.value ((nth 1 ms).value given e)
  pub range : IsRanging x.sense.range (nth 1 ms).range (known_of ms e) e
