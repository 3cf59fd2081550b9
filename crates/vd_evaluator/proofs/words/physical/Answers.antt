use Rattle.std.proofs.Common.{refl}
use Rattle.vd_evaluator.proofs.SenseLemmas.{time_node}
use Rattle.vd_evaluator.proofs.words.physical.Goals as goal

pub returns : goal.returns
returns c = time_node _ _ _ _ _ _ c.in_ok-found.found c.in-Some.digits.now c.in-Some-text_of.name.now c.in-Some.ensures c.in-Some-text_of.ensures c.in_ok-found.ensures refl refl
