-- Parts of nodes.
use Rattle.std.specs.Prelude.{◌≡◌, List, None, Option, Some}
use Rattle.vd_environments.specs.Environments.{Env}
use Rattle.vd_forest.specs.Forest.{Forest}
use Rattle.vd_value_rules.specs.declared.forms.IndicatedForm.{IndicatedForm}
use Rattle.vd_meaning.specs.Facets.{Meaning, no_meaning}
use Rattle.vd_static_values.specs.Nodes.{IsNode}
use Rattle.vd_static_values.specs.declared.nodes.Node.{Node}

-- a part, or none where the text has none
abbrev pub IsPart : List (Forest IndicatedForm) → Env → Option Node → Meaning → Type 0
IsPart subtypes e None m = m ≡ no_meaning
IsPart subtypes e (Some x) m = IsNode subtypes e x m
