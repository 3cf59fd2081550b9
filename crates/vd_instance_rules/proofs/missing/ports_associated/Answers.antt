use Rattle.std.proofs.Common.{refl, sym, take}
use Rattle.vd_instance_rules.proofs.LoopLemmas.{seen_all, seen_more}
use Rattle.vd_instance_rules.specs.Instances.{read_association, read_associations}
use Rattle.vd_instance_rules.proofs.missing.ports_associated.Goals as goal

pub loop-association-preserved : goal.loop-association-preserved
loop-association-preserved c =
    let xs = c.args.associations.now in
    let j = c.loop-association.association-index in
    let x = c.association-item.result in
    seen_more xs j x c.loop-association-test.true (sym c.association-item.is) c.associate.new.seen
    (c.in_ok-associate.ensures (read_associations (take j xs)) (read_association x) c.loop-association.invariant refl)

pub returns : goal.returns
returns c = seen_all c.args.associations.now c.loop-association.association-index c.loop-association.seen c.loop-association-test.false c.loop-association.invariant
