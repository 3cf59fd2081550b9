use Rattle.vd_known_designs.proofs.DeclaredLemmas.{is_known_denoted}
use Rattle.vd_known_designs.proofs.KnownLemmas.{known_changed}
use Rattle.vd_known_designs.specs.Contents.{content_of, with_denoted}
use Rattle.vd_known_designs.proofs.table.KnownTable.set.Goals as goal

pub returns-clause-known : goal.returns-clause-known
returns-clause-known c = λ t own d k ks known entered indicates.
    let x = c.args.self.now in
    let content = content_of x.contents in
    known_changed t x.subtypes x.contents c.put_entry.new.self x.log.items c.push.new.self.items x.marks.items c.in_ok-replaced.replaced
    (with_denoted c.args.number c.args.entry c.args.choosing content) k _ ks c.in_ok-replaced.ensures c.in_ok-push.ensures.items known
    (is_known_denoted t x.subtypes content k c.args.number c.args.entry c.args.choosing own d known.now entered indicates)
