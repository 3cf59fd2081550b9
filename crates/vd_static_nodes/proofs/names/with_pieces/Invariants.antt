use Rattle.std.proofs.Common.{List, drop}
use Rattle.vd_environments.specs.Environments.{Env}
use Rattle.vd_static_names.specs.Jumps.{AreJumps}
use Rattle.vd_meaning.specs.Facets.{Meaning}
use Rattle.vd_meaning.specs.Meanings.{named_by}
use Rattle.vd_meaning.specs.Names.{Named}
use Rattle.vd_static_values.specs.Entries.{IsGround}
use Rattle.vd_static_values.specs.Names.{IsName}
use Rattle.vd_static_values.specs.Nodes.{AreNodes}
use Rattle.vd_static_names.specs.Known.{IsWithin}
use Rattle.vd_static_nodes.proofs.NameLemmas.{ComesTo}
use Rattle.vd_static_nodes.proofs.names.with_pieces.Given as goal

abbrev pub invariant-loop-node : goal.invariant-loop-node
invariant-loop-node l = record {
  within : IsWithin l.ground.subtypes.now l.name;
  fields : AreJumps l.fields.jumps.items l.ground.subtypes.now;
  named : (e : Env) (p : Named) (ms : List Meaning) → IsGround l.ground e → IsName l.ground.subtypes.now e l.fn.first p
      → AreNodes l.ground.subtypes.now e l.pieces ms → ComesTo l.ground.subtypes.now e l.name (drop l.node-index l.pieces) (named_by p ms);
}
