use Rattle.std.proofs.Common.{refl}
use Rattle.vd_modes.proofs.SamenessLemmas.{compared_fewer}
use Rattle.vd_modes.proofs.sameness.compare_first.Goals as goal

pub returns : goal.returns
returns c =
    let one = c.in-Some.one in
    let old = c.args.round.now.items in
    let between = c.push.new.self.items in
    let new = c.push-2.new.self.items in
    record {
      fewer =
          compared_fewer c.args.left.now one.parts one.next one.form one.text.now one.place old between new _ _
          c.in-Some.ensures refl refl c.in_ok-push.ensures.items c.in_ok-push-2.ensures.items;
    }
