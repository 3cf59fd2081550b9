use Rattle.vd_port_facts.proofs.ActualLemmas.{element_is}
use Rattle.vd_port_facts.proofs.actuals.element_of_first.Goals as goal

pub returns : goal.returns
returns c = λ t. element_is t c.args.trees.now c.formal_in_map.result c.is_open.result (c.formal_in_map.ensures t) (c.is_open.ensures t)
