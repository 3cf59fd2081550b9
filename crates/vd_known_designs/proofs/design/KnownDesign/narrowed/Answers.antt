use Rattle.vd_known_designs.proofs.DesignLemmas.{knows_grown}
use Rattle.vd_known_designs.specs.declared.design.KnownDesign.{KnownDesign}
use Rattle.vd_known_designs.proofs.design.KnownDesign.narrowed.Goals as goal

pub returns-clause-knows : goal.returns-clause-knows
returns-clause-knows c = λ d ks knows.
    let between : KnownDesign = record c.args.self.now { table = record c.args.self.now.table { subtypes = c.narrowed.new.self } } in
    knows_grown d between c.narrowed-2.new.self ks c.in_ok-choosing.ensures.extends
    (knows_grown d c.args.self.now c.narrowed.new.self ks c.in_ok-own.ensures.extends knows)
