use Rattle.std.proofs.Common.{ap₂, refl}
use Rattle.vd_known_units.proofs.CopyLemmas.{one_pair_more}
use Rattle.vd_meaning.specs.Tables.{pairs}
use Rattle.vd_known_units.proofs.copies.with_parameters.Goals as goal

pub loop-pair-preserved : goal.loop-pair-preserved
loop-pair-preserved c =
    one_pair_more c.args.declarations.now c.args.pairs.now c.loop-pair.made.items c.push.new.self.items c.add_pairs.new.made.items c.loop-pair.pair-index _ _ _
    c.loop-pair-test.true refl c.loop-pair.invariant c.in_ok-push.ensures.items c.in_ok-add_pairs.ensures (ap₂ pairs c.parameters_of.ensures c.parameters_of-in-loop-pair.ensures)
