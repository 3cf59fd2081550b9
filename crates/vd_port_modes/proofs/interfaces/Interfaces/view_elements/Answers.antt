use Rattle.vd_port_modes.proofs.TableLemmas.{names_answered}
use Rattle.vd_port_modes.specs.Tables.{names_listed}
use Rattle.vd_port_modes.proofs.interfaces.Interfaces.view_elements.Goals as goal

pub returns : goal.returns
returns c =
    names_answered c.self.invariant c.deref.result.now c.args.self.now c.args.view
    c.found_of-found.result (names_listed c.elements_by.result.now)
    c.self.view_is c.deref.ensures.value c.found_of-found.ensures c.elements_by.ensures
