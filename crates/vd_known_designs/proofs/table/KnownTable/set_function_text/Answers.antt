use Rattle.vd_known_designs.proofs.DeclaredLemmas.{is_known_text}
use Rattle.vd_known_designs.proofs.KnownLemmas.{known_changed}
use Rattle.vd_known_designs.specs.Contents.{content_of, with_function_text}
use Rattle.vd_known_designs.proofs.table.KnownTable.set_function_text.Goals as goal

pub returns-clause-known : goal.returns-clause-known
returns-clause-known c = λ t k ks known.
    let x = c.args.self.now in
    let content = content_of x.contents in
    known_changed t x.subtypes x.contents c.put_function.new.self x.log.items c.push.new.self.items x.marks.items c.in_ok-replaced.replaced
    (with_function_text c.args.number c.args.text content) k _ ks c.in_ok-replaced.ensures c.in_ok-push.ensures.items known
    (is_known_text t x.subtypes content k c.args.number c.args.text known.now)
