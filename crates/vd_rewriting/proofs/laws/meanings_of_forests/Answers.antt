use Rattle.vd_rewriting.proofs.FoldingLaws.{folded_joined, folded_same}
use Rattle.vd_rewriting.proofs.laws.meanings_of_forests.Goals as goal

pub returns-clause-joined : goal.returns-clause-joined
returns-clause-joined g c = λ meaning f k. folded_joined meaning f k

pub returns-clause-blind : goal.returns-clause-blind
returns-clause-blind g c = λ meaning blind f k same. folded_same meaning blind f k same
