use Rattle.std.proofs.Common.{List, drop}
use Rattle.vd_static_names.specs.Jumps.{AreJumps}
use Rattle.vd_known_lengths.proofs.MeasuredLemmas.{ComesTo}
use Rattle.vd_known_lengths.specs.Extents.{AreMeasured, IsExtent, IsWithin}
use Rattle.vd_value_rules.specs.Lengths.{Shaped, Shaping, name_shaped}
use Rattle.vd_known_lengths.proofs.names.with_pieces.Given as goal

abbrev pub invariant-loop-node : goal.invariant-loop-node
invariant-loop-node l = record {
  within : IsWithin l.subtypes l.extent;
  fields : AreJumps l.fields.jumps.items l.subtypes;
  is : (p : Shaped) (ss : List Shaping) → IsExtent l.subtypes l.fn.first p → AreMeasured l.subtypes l.pieces ss
      → ComesTo l.subtypes l.extent (drop l.node-index l.pieces) (name_shaped ss p);
}
