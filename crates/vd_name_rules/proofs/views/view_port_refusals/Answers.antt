use Rattle.vd_name_rules.proofs.ViewLemmas.{views_from}
use Rattle.vd_name_rules.proofs.views.view_port_refusals.Goals as goal

pub returns : goal.returns
returns c =
    views_from c.args.revision c.args.tree.now c.in_ok-interfaces.interfaces c.cursor-units.result c.in_ok-names.names
    c.in_ok-interfaces.ensures c.cursor-units.ensures c.in_ok-names.ensures
