use Rattle.std.proofs.Common.{None, drop, false, get_or, ◌+◌}
use Rattle.vd_known_lengths.proofs.MeasuredLemmas.{comes_further, next_piece}
use Rattle.vd_known_lengths.specs.declared.extents.Extent.{Extent}
use Rattle.vd_known_lengths.specs.declared.pieces.Measured.{Measured}
use Rattle.vd_known_lengths.specs.declared.pieces.Piece.TheVariants.{Own}
use Rattle.vd_static_values.specs.declared.names.NameSubtype.TheVariants.{Stored}
use Rattle.vd_value_rules.specs.Lengths.{name_shaped}
use Rattle.vd_known_lengths.proofs.names.with_pieces.Goals as goal

abbrev none : Extent
none = record { subtype = Stored 0; length = None; is_callee = false }

abbrev no_node : Measured
no_node = record { extent = none; piece = Own none }

pub loop-node-preserved : goal.loop-node-preserved
loop-node-preserved c =
    let store = c.args.subtypes.now in
    let xs = c.args.pieces.now in
    let i = c.loop-node.node-index in
    record {
      within = c.in_ok-extent.ensures.within;
      fields = c.in_ok-extent.ensures.fields;
      is = λ p ss extent pieces.
          comes_further store c.loop-node.extent c.in_ok-extent.extent (get_or xs i no_node) (drop (i + 1) xs) (drop i xs) (name_shaped ss p) (next_piece xs i no_node c.loop-node-test.true)
          c.in_ok-extent.ensures.is (c.loop-node.invariant.is p ss extent pieces);
    }
