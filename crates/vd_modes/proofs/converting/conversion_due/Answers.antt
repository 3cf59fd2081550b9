use Rattle.std.proofs.Common.{subst}
use Rattle.std.proofs.lemmas.Result.{IfOk-weaker}
use Rattle.vd_modes.specs.Conversions.{PassesLimit, RefusesRule}
use Rattle.vd_modes.specs.Dues.{SaysConversion}
use Rattle.vd_modes.proofs.converting.conversion_due.Goals as goal

pub returns-in-Ok-clause-said : goal.returns-in-Ok-clause-said
returns-in-Ok-clause-said c =
    let tool = c.args.settings.now.tool_type in
    let contents = c.args.contents.now in
    IfOk-weaker c.converted_due.result _ _ (λ due says. says tool contents c.in-Ok.ensures.units) c.converted_due.ensures.said

pub returns-in-Err-Refused-clause-said : goal.returns-in-Err-Refused-clause-said
returns-in-Err-Refused-clause-said c =
    let is = subst (RefusesRule c.args.settings.now.tool_type c.args.contents.now) c.in-Err-Refused.field-0-is c.in-Err-Refused.ensures.refused in
    IfOk-weaker c.refusal_due.result _ _ (λ due e. SaysConversion.refuses c.in-Err-Refused.refused is e) c.refusal_due.ensures

pub returns-in-Err-Limit-clause-said : goal.returns-in-Err-Limit-clause-said
returns-in-Err-Limit-clause-said c =
    let is = subst (PassesLimit c.args.settings.now.tool_type c.args.contents.now) c.in-Err-Limit.field-0-is c.in-Err-Limit.ensures.nodes in
    IfOk-weaker c.limit.result _ _ (λ due e. SaysConversion.limits c.in-Err-Limit.limit is e) c.limit.ensures
