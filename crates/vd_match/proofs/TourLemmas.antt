-- Where a walk begins that knows nothing. No name has a dash, so that a caller can name it in `#[tactic(auto, using(..))]`.
use Rattle.std.proofs.Common.{List, []}
use Rattle.vd_forest.specs.Forest.{Forest}
use Rattle.vd_forest.proofs.StoreLemmas.{extends_same}
use Rattle.vd_notes.specs.declared.noted.Noted.{Noted}
use Rattle.vd_tours.specs.Tours.{IsAtPlace}

pub at_start : (store : List (Forest Noted)) → IsAtPlace {F = Noted} (λ before ps. Unit {0}) store
at_start store = record { before = store; grown = extends_same store; here = []; round = []; known = tt }
