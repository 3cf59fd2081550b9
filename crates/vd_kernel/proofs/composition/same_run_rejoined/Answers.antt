use Rattle.vd_kernel.proofs.OtherJoins.{run_by_join}
use Rattle.vd_kernel.proofs.composition.same_run_rejoined.Goals as goal

pub returns : goal.returns
returns g _ =
    let t = g.T.Rejoining in λ c m n joins. run_by_join (t.joined c) (t.rejoined c) joins.forth joins.back m n
