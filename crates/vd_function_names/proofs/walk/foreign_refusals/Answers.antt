use Rattle.std.proofs.Common.{refl}
use Rattle.vd_function_names.proofs.WalkLemmas.{firsts_are}
use Rattle.vd_function_names.proofs.walk.foreign_refusals.Goals as goal
use Rattle.vd_walks.specs.Outcomes.{seen_in}

pub returns : goal.returns
returns c =
    firsts_are c.args.revision c.args.tree.now _ c.cursor.result (seen_in c.walk.new.out c.walk.new.design c.in_ok-outcome.outcome) c.in_ok-outcome.outcome.first
    c.cursor.ensures c.in_ok-outcome.ensures.is.is refl
