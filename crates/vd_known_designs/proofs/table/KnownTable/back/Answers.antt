use Rattle.vd_known_designs.proofs.KnownLemmas.{known_back, known_moved}
use Rattle.vd_known_designs.proofs.table.KnownTable.back.Goals as goal

pub returns-in-Some-clause-known : goal.returns-in-Some-clause-known
returns-in-Some-clause-known c = λ t now k ks known.
    let x = c.args.self.now in
    let y = c.back_to.new.self in
    known_moved t x.subtypes y.subtypes y.contents y.log.items c.pop.new.self.items y.marks.items k ks c.back_to.ensures.same c.back_to.ensures.marks
    (known_back t x.subtypes x.contents y.contents x.log.items y.log.items x.marks.items c.pop.new.self.items c.in-Some.mark now k ks c.in-Some.ensures.items
    c.back_to.ensures.log c.back_to.ensures.back known)
