use Rattle.vd_design_files.proofs.AnswerLaws.{some_answer}
use Rattle.vd_first_lower.proofs.OneConversion.{one_conversion}
use Rattle.vd_command.proofs.SomeOutcome.{some_outcome}
use Rattle.vd_command.proofs.top.some_outcome.Goals as goal

pub returns : goal.returns
returns c = some_outcome one_conversion some_answer
