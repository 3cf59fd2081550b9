use Rattle.vd_port_modes.proofs.TableLemmas.{view_answered}
use Rattle.vd_value_rules.specs.Knowledge.{mark_of_view}
use Rattle.vd_port_modes.proofs.interfaces.Interfaces.mark_of_view.Goals as goal

pub returns : goal.returns
returns c =
    view_answered mark_of_view c.self.invariant c.deref.result.now c.deref-2.result.now c.args.self.now c.args.view c.found_of-found.result c.mark_by.result
    c.self.view_is c.deref.ensures.value c.deref-2.ensures.value c.found_of-found.ensures c.mark_by.ensures
