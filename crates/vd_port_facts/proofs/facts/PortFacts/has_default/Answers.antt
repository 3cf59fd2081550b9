use Rattle.vd_port_facts.proofs.NeedLemmas.{default_answered}
use Rattle.vd_port_facts.proofs.facts.PortFacts.has_default.Goals as goal

pub returns : goal.returns
returns c =
    default_answered c.self.invariant c.args.self.now c.args.port c.deref.result.now c.place_of-place.result c.default_found.result
    c.self.view_is c.deref.ensures.value c.place_of-place.ensures c.default_found.ensures
