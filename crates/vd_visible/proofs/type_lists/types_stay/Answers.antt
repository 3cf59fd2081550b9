use Rattle.vd_visible.proofs.TypeListLemmas.{types_stay_below}
use Rattle.vd_visible.proofs.type_lists.types_stay.Goals as goal

pub returns : goal.returns
returns c = types_stay_below
