use Rattle.std.proofs.Common.{◌≡◌, subst}
use Rattle.std.proofs.lemmas.Result.{IfOk-weaker}
use Rattle.vd_modes.specs.Dues.{SaysConversion as SaysWholeConversion}
use Rattle.vd_words.specs.Words.{texts_of}
use Rattle.vd_command.specs.Outcomes.{IsNotFirst, SaysConversion}
use Rattle.vd_command.proofs.conversion.ConversionTask.form.Goals as goal

pub returns-in-None-clause-said : goal.returns-in-None-clause-said
returns-in-None-clause-said c =
    let none : IsNotFirst c.args.contents.now = subst IsNotFirst c.as_slice.ensures (c.in_ok-due.ensures.other (cc)) in
    let same : c.self.inside.whole ≡ c.args.self.now = cc in
    IfOk-weaker c.form.result _ _ (λ due x. SaysConversion.other none (subst (λ tool. SaysWholeConversion tool (texts_of c.args.names.now) c.args.contents.now due) same x)) c.form.ensures.said
