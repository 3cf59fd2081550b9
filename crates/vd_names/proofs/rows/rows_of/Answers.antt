use Rattle.std.proofs.Common.{[], refl}
use Rattle.vd_names.proofs.rows.rows_of.Goals as goal

pub follow-requires : goal.follow-requires
follow-requires c = λ k. (
  (refl, tt),
  record {
    found = [];
    here = [];
    round = [];
    knows = tt;
  },
)
