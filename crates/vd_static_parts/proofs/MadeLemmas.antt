-- What nodes come to, over whatever is known.
use Rattle.std.proofs.Common.{Err, IfOk, List, Ok, Result, ℕ}
use Rattle.vd_environments.specs.Environments.{Env}
use Rattle.vd_meaning.specs.Facets.{Meaning}
use Rattle.vd_meaning.specs.Kinds
use Rattle.vd_meaning.specs.Meanings.{meaning_of}
use Rattle.vd_resolved.specs.declared.node.Resolved.{Resolved}
use Rattle.vd_static_values.specs.Entries.{IsGround, table_of}
use Rattle.vd_static_values.specs.Nodes.{AreNodes, IsNode}
use Rattle.vd_static_values.specs.declared.entries.Ground.{Ground}
use Rattle.vd_static_values.specs.declared.nodes.Node.{Node}
use Rattle.vd_static_parts.specs.Made.{IsMade}

-- what holds of a node, if there is one, in each environment makes it what it is to be
pub made_by : {E : Type 0} (r : Result Node E) (k : Kinds.Kind) (g : Ground) (n : Resolved) (text : List ℕ) (parts : List Node)
    → ((e : Env) (ms : List Meaning) → IsGround g e → AreNodes g.subtypes.now e parts ms
    → IfOk r (λ x. IsNode g.subtypes.now e x (meaning_of k (table_of g) n text ms)))
    → IfOk r (IsMade k g n text parts)
made_by (Ok x) k g n text parts made = made
made_by (Err failure) k g n text parts made = tt
