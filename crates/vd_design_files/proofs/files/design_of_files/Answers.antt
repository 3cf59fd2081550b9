use Rattle.vd_design_files.specs.Files.{IsAnswer, IsAnswerOfTexts}
use Rattle.vd_design_files.proofs.FileLemmas.{answer_lifted}
use Rattle.vd_design_files.proofs.files.design_of_files.Goals as goal

pub returns-clause-exact : goal.returns-clause-exact
returns-clause-exact c =
    answer_lifted (IsAnswerOfTexts c.in_ok-texts.texts.items) (IsAnswer c.args.settings.now.tool_type c.args.contents.now)
    (λ a. IsAnswer.selected c.in_ok-texts.texts.items c.in_ok-texts.ensures.have) c.design_of_texts.result c.design_of_texts.ensures.exact
