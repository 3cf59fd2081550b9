use Rattle.vd_known_designs.proofs.DesignLemmas.{at_some_mark}
use Rattle.vd_known_designs.proofs.design.KnownDesign.marked.Goals as goal

pub returns-in-Some : goal.returns-in-Some
returns-in-Some c = λ d k ks knows. record {
  own = at_some_mark c.args.self.now.table.subtypes c.own.result c.number.result c.args.mark c.in-Some.mark k.env c.in-Some.is c.number.ensures (c.own.ensures d.table k ks knows.known);
  choosing = at_some_mark c.args.self.now.table.subtypes c.choosing.result c.number-in-Some.result c.args.mark c.in-Some.mark k.choosing c.in-Some.is c.number-in-Some.ensures (c.choosing.ensures d.table k ks knows.known);
}
