use Rattle.vd_known_designs.proofs.DesignLemmas.{knows_grown}
use Rattle.vd_known_designs.specs.declared.design.KnownDesign.{KnownDesign}
use Rattle.vd_known_forms.proofs.enumerations.enumeration_defined.Goals as goal

pub returns-clause-knows : goal.returns-clause-knows
returns-clause-knows c = λ d ks knows.
    let old = c.args.design.now in
    let listed : KnownDesign = record old { table = record old.table { subtypes = c.literals.new.subtypes } } in
    knows_grown d listed c.enumeration.new.self ks c.in_ok-number.ensures.extends
    (knows_grown d old c.literals.new.subtypes ks c.in_ok-listed.ensures.extends knows)
