use Rattle.std.proofs.Common.{subst}
use Rattle.vd_design_files.specs.Files.{IsAnswerOfTexts, IsAnswerOfTokens, IsLexed}
use Rattle.vd_design_files.specs.InOrder.{HaveEach}
use Rattle.vd_design_files.proofs.FileLemmas.{answer_lifted}
use Rattle.vd_design_files.proofs.files.design_of_texts.Goals as goal

pub returns-clause-exact : goal.returns-clause-exact
returns-clause-exact c =
    let texts = c.args.texts.items in
    let lists = c.in_ok-lists.lists.items in
    let have = subst (λ ts. HaveEach IsLexed ts lists) c.as_slice.ensures.value c.in_ok-lists.ensures.have in
    answer_lifted (IsAnswerOfTokens c.in_ok-warnings.warnings lists) (IsAnswerOfTexts texts)
    (λ a is. IsAnswerOfTexts.lexed lists have (subst (λ ws. IsAnswerOfTokens ws lists a) c.in_ok-warnings.ensures is))
    c.design_of_tokens.result c.design_of_tokens.ensures.exact
