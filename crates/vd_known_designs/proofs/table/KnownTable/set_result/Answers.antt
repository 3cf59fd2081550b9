use Rattle.vd_known_designs.proofs.DeclaredLemmas.{is_known_result}
use Rattle.vd_known_designs.proofs.KnownLemmas.{known_changed}
use Rattle.vd_known_designs.specs.Contents.{content_of, with_surroundings}
use Rattle.vd_known_designs.proofs.table.KnownTable.set_result.Goals as goal

pub returns-clause-known : goal.returns-clause-known
returns-clause-known c = λ t i k ks known indicates.
    let x = c.args.self.now in
    let content = content_of x.contents in
    known_changed t x.subtypes x.contents c.put_surroundings-replaced.new.self x.log.items c.push.new.self.items x.marks.items c.put_surroundings-replaced.result
    (with_surroundings x.contents.is_inside c.args.own content) k _ ks c.put_surroundings-replaced.ensures c.in_ok-push.ensures.items known
    (is_known_result t x.subtypes content k c.args.own i known.now indicates)
