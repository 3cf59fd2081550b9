-- What is known of trees.
use Rattle.std.specs.Prelude.{List}
use Rattle.vd_environments.specs.Environments.{Env}
use Rattle.vd_forest.specs.Forest.{Forest}
use Rattle.vd_meaning.specs.Facets.{nth}
use Rattle.vd_meaning.specs.Meanings.{meanings}
use Rattle.vd_resolved.specs.declared.node.Resolved.{Resolved}
use Rattle.vd_static_values.specs.Entries.{IsGround, table_of}
use Rattle.vd_static_values.specs.Nodes.{AreNodes, IsNode}
use Rattle.vd_static_values.specs.declared.entries.Ground.{Ground}
use Rattle.vd_static_values.specs.declared.nodes.Node.{Node}

-- of all trees of a forest, over whatever environment has what is known of the declarations
abbrev pub AreKnownNodes : Ground → Forest Resolved → List Node → Type 0
AreKnownNodes g f xs = (e : Env) → IsGround g e → AreNodes g.subtypes.now e xs (meanings (table_of g) f)

-- of the first one
abbrev pub IsKnownNode : Ground → Forest Resolved → Node → Type 0
IsKnownNode g f x = (e : Env) → IsGround g e → IsNode g.subtypes.now e x (nth 0 (meanings (table_of g) f))
