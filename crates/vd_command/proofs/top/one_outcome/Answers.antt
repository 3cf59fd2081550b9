use Rattle.vd_design_files.proofs.AnswerLaws.{one_answer}
use Rattle.vd_first_lower.proofs.OneConversion.{one_conversion}
use Rattle.vd_command.proofs.OneOutcome.{one_outcome}
use Rattle.vd_command.proofs.top.one_outcome.Goals as goal

pub returns : goal.returns
returns c = one_outcome one_conversion one_answer
