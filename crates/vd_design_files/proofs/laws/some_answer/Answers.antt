use Rattle.vd_design_files.proofs.AnswerLaws.{some_answer}
use Rattle.vd_design_files.proofs.laws.some_answer.Goals as goal

pub returns : goal.returns
returns c = some_answer
