use Rattle.std.proofs.lemmas.Result.{on_ok_weaker}
use Rattle.vd_modes.proofs.rereading.reread.Goals as goal

pub returns : goal.returns
returns c =
    on_ok_weaker c.compare.result
    (λ same. record { units = c.in_ok-design.design; read = c.in_ok-design.ensures; accepted = c.in_ok-judge.ensures; laid_out = same })
    c.compare.ensures
