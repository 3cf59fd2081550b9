use Rattle.vd_first_correspondence.proofs.ProcessLemmas.{lists_are_sets}
use Rattle.vd_first_correspondence.proofs.laws.lists_are_read_sets.Goals as goal

pub returns : goal.returns
returns c = lists_are_sets
