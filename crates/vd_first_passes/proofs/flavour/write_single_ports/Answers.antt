use Rattle.vd_forest.proofs.StoreLemmas.{extends_trans}
use Rattle.vd_first_passes.proofs.FlavourLemmas.{ports_made}
use Rattle.vd_first_passes.proofs.flavour.write_single_ports.Goals as goal

pub loop-first-preserved : goal.loop-first-preserved
loop-first-preserved c =
    let first = c.in-Some.first in
    let copied = c.in_ok-mode_and_subtype.ensures in
    let now = c.in_ok-made.ensures in
    let so_far = c.loop-first.invariant in
    let grown = extends_trans c.loop-first.out c.copy.new.self c.write_each.new.out copied.extends now.extends in
    record {
      made_in = now.holds.within;
      extends = extends_trans c.args.out.now c.loop-first.out c.write_each.new.out so_far.extends grown;
      same = ports_made c.loop-first.out c.copy.new.self c.write_each.new.out c.in_ok-mode_and_subtype.mode_and_subtype c.loop-first.made c.in_ok-made.made c.loop-first.left first.next c.parts.result c.next.result _ first.form first.text.now first.place first.parts c.in-Some.ensures c.parts.ensures c.next.ensures copied.extends so_far.made_in copied.holds now.holds so_far.same;
    }
