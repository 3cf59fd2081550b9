use Rattle.vd_name_rules.proofs.StateLemmas.{names_from}
use Rattle.vd_name_rules.proofs.names.name_refusals.Goals as goal

pub returns : goal.returns
returns c =
    names_from c.args.revision c.args.tree.now c.in_ok-interfaces.interfaces c.all_of-start.result c.cursor-units.result c.in_ok-names.names c.in_ok-rules.rules
    c.in_ok-interfaces.ensures c.all_of-start.ensures c.cursor-units.ensures c.in_ok-names.ensures c.in_ok-rules.ensures
