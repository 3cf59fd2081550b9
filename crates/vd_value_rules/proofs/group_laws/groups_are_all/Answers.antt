use Rattle.vd_value_rules.proofs.GroupLemmas.{groups_are_all}
use Rattle.vd_value_rules.proofs.group_laws.groups_are_all.Goals as goal

pub returns : goal.returns
returns c = groups_are_all
