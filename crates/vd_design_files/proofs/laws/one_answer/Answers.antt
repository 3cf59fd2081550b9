use Rattle.vd_design_files.proofs.AnswerLaws.{one_answer}
use Rattle.vd_design_files.proofs.laws.one_answer.Goals as goal

pub returns : goal.returns
returns c = one_answer
