use Rattle.std.proofs.Common.{◌≡◌, ◌++◌, OnOk, subst}
use Rattle.vd_writing.specs.Pending.{pending}
use Rattle.vd_writing.proofs.PendingLemmas.{part_items, listed_items, parts_items}
use Rattle.vd_writing.proofs.stack.push_piece.Goals as goal

pub returns-in-Part-clause-pushed : goal.returns-in-Part-clause-pushed
returns-in-Part-clause-pushed c =
    let table = c.args.rows.now in
    subst (λ items. OnOk c.push_first.result (pending table c.push_first.new.stack.items ≡ items ++ pending table c.args.stack.now.items))
    (part_items table c.args.piece c.args.whole c.args.node c.in-Part.number c.from.result c.skip.result c.from.ensures c.skip.ensures c.in-Part.state c.in-Part.is) c.push_first.ensures.first

pub returns-in-Listed-clause-pushed : goal.returns-in-Listed-clause-pushed
returns-in-Listed-clause-pushed c =
    let table = c.args.rows.now in
    subst (λ items. OnOk c.push.result (pending table c.push.new.stack.items ≡ items ++ pending table c.args.stack.now.items))
    (listed_items table c.args.piece c.args.whole c.args.node c.in-Listed.number c.from-in-Listed.result c.skip-in-Listed.result c.from-in-Listed.ensures c.skip-in-Listed.ensures c.in-Listed.symbol c.in-Listed.is) c.push.ensures

pub returns-in-Parts-clause-pushed : goal.returns-in-Parts-clause-pushed
returns-in-Parts-clause-pushed c =
    let table = c.args.rows.now in
    subst (λ items. OnOk c.push-in-Parts.result (pending table c.push-in-Parts.new.stack.items ≡ items ++ pending table c.args.stack.now.items))
    (parts_items table c.args.piece c.args.whole c.args.node c.in-Parts.number c.from-in-Parts.result c.skip-in-Parts.result c.from-in-Parts.ensures c.skip-in-Parts.ensures c.in-Parts.is) c.push-in-Parts.ensures
