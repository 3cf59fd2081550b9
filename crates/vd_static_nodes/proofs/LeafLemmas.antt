-- Nodes with texts of their own.
use Rattle.std.proofs.Common.{List, ℕ}
use Rattle.vd_environments.specs.Environments.{Env}
use Rattle.vd_forest.specs.Forest.{Forest}
use Rattle.vd_value_rules.specs.declared.forms.IndicatedForm.{IndicatedForm}
use Rattle.vd_meaning.specs.Facets.{Meaning}
use Rattle.vd_static_values.specs.Nodes.{IsNode}
use Rattle.vd_static_values.specs.declared.nodes.Node.{Node}
use Rattle.vd_static_parts.proofs.NodeLemmas.{unseen}

-- the texts and numbers that a node declares count for nothing where its value is looked for
pub with_texts : (subtypes : List (Forest IndicatedForm)) (e : Env) (x : Node) (m : Meaning) (texts : List (List ℕ)) (numbers : List ℕ)
    → IsNode subtypes e x m → IsNode subtypes e x (record m { texts = texts; numbers = numbers })
with_texts subtypes e x m texts numbers is = record { sense = unseen subtypes e x.sense m m.piece m.covers m.chosen texts numbers is.sense; piece = is.piece }
