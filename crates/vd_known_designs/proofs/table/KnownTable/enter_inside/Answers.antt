use Rattle.std.proofs.Common.{true}
use Rattle.vd_known_designs.proofs.DeclaredLemmas.{is_known_inside}
use Rattle.vd_known_designs.proofs.KnownLemmas.{known_changed}
use Rattle.vd_known_designs.specs.Contents.{content_of, with_surroundings}
use Rattle.vd_known_designs.proofs.table.KnownTable.enter_inside.Goals as goal

pub returns-clause-known : goal.returns-clause-known
returns-clause-known c = λ t k ks known.
    let x = c.args.self.now in
    let content = content_of x.contents in
    known_changed t x.subtypes x.contents c.put_surroundings-replaced.new.self x.log.items c.push.new.self.items x.marks.items c.put_surroundings-replaced.result
    (with_surroundings true x.contents.result content) k _ ks c.put_surroundings-replaced.ensures c.in_ok-push.ensures.items known
    (is_known_inside t x.subtypes content k known.now)
