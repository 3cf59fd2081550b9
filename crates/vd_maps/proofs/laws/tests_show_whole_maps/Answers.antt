use Rattle.vd_maps.proofs.Tested.{one_to_one, whole}
use Rattle.vd_maps.proofs.laws.tests_show_whole_maps.Goals as goal

pub returns-clause-joins : goal.returns-clause-joins
returns-clause-joins c = one_to_one

pub returns-clause-maps : goal.returns-clause-maps
returns-clause-maps c = whole
