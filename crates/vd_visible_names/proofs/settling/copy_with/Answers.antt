use Rattle.std.proofs.Common.{[], refl}
use Rattle.vd_forest.proofs.StoreLemmas.{extends_same}
use Rattle.vd_visible_names.proofs.settling.copy_with.Goals as goal

-- the trees live as long as the walk asks, and nothing is asked to be known at any place
pub tour-requires : goal.tour-requires
tour-requires c κs = ((refl, tt), record { before = _; grown = extends_same _; here = []; round = []; known = tt })
