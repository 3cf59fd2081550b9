use Rattle.vd_meaning.specs.Instances.{element_mode}
use Rattle.vd_port_lists.specs.Modes.{read_mode}
use Rattle.vd_port_modes.proofs.TableLemmas.{view_answered}
use Rattle.vd_value_rules.specs.Designs.{elements_of}
use Rattle.vd_port_modes.proofs.interfaces.Interfaces.mode_of_element.Goals as goal

pub returns : goal.returns
returns c =
    view_answered (λ v. element_mode (elements_of v) c.args.name.now) c.self.invariant c.deref.result.now c.deref-2.result.now c.args.self.now c.args.view
    c.found_of-found.result (read_mode c.mode_by.result)
    c.self.view_is c.deref.ensures.value c.deref-2.ensures.value c.found_of-found.ensures c.mode_by.ensures
