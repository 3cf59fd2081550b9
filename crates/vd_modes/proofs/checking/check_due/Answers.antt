use Rattle.std.proofs.Common.{ap, ◌∙◌, subst}
use Rattle.std.proofs.lemmas.Result.{IfOk-weaker}
use Rattle.vd_design_files.specs.Files.{refused, beyond, holds, IsAnswer}
use Rattle.vd_design_files.specs.Laws.{IsEnd}
use Rattle.vd_accepting.specs.Phases.{first_broken}
use Rattle.vd_trees.specs.declared.revision.Revision.TheVariants.{V2019}
use Rattle.vd_words.specs.Words.{texts_of}
use Rattle.vd_modes.specs.Checks.{judgement}
use Rattle.vd_modes.proofs.checking.check_due.Goals as goal

pub returns-in-Ok-clause-said : goal.returns-in-Ok-clause-said
returns-in-Ok-clause-said c =
    let files = c.in-Ok.files in
    let counted = ap (λ n. judgement (texts_of c.args.names.now) files.warnings n (first_broken V2019 files.design)) c.in-Ok.ensures.counted in
    IfOk-weaker c.judged_due.result _ _ (λ due e. (holds files.design files.warnings, c.in-Ok.ensures.exact, e ∙ counted)) c.judged_due.ensures

pub returns-in-Err-Refused-clause-said : goal.returns-in-Err-Refused-clause-said
returns-in-Err-Refused-clause-said c =
    let is = subst (IsEnd (IsAnswer c.args.settings.now.tool_type c.args.contents.now)) c.in-Err-Refused.field-0-is c.in-Err-Refused.ensures.exact in
    IfOk-weaker c.refusal_due.result _ _ (λ due e. (refused c.in-Err-Refused.refused, is, e)) c.refusal_due.ensures

pub returns-in-Err-Limit-clause-said : goal.returns-in-Err-Limit-clause-said
returns-in-Err-Limit-clause-said c =
    let is = subst (IsEnd (IsAnswer c.args.settings.now.tool_type c.args.contents.now)) c.in-Err-Limit.field-0-is c.in-Err-Limit.ensures.exact in
    IfOk-weaker c.limit.result _ _ (λ due e. (beyond c.in-Err-Limit.limit, is, e)) c.limit.ensures
