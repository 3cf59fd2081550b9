use Rattle.std.proofs.Common.{refl}
use Rattle.vd_evaluator.proofs.SenseLemmas.{quoted_node}
use Rattle.vd_evaluator.proofs.words.quoted.Goals as goal

pub returns : goal.returns
returns c = λ parts. quoted_node _ _ _ _ parts _ c.in_ok-found.found c.in_ok-found.ensures refl refl
