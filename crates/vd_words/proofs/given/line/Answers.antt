use Rattle.std.proofs.Common.{◌≡◌, ◌∙◌, ap, ap₂, true, codes}
use Rattle.std.proofs.lemmas.Result.{IfOk-weaker}
use Rattle.clap.specs.Words.{App, Shape, app_of, new_app, with_rule}
use Rattle.clap.specs.Simple.{app_of_fields, on_top}
use Rattle.vd_words.specs.Given.{bare_line, option, argument, file_id}
use Rattle.vd_words.proofs.given.line.Goals as goal

abbrev without_name : App → App
without_name = on_top (λ s. record s { no_binary_name = true })

abbrev without_help : App → App
without_help = on_top (λ s. record s { disable_help_flag = true })

abbrev without_version : App → App
without_version = on_top (λ s. record s { disable_version_flag = true })

pub returns : goal.returns
returns c =
    let named : app_of c.no_binary_name.result ≡ without_name (new_app (codes "vdown")) = ap app_of_fields c.no_binary_name.ensures ∙ ap without_name c.new.ensures.app in
    let helpless : app_of c.disable_help_flag.result ≡ without_help (without_name (new_app (codes "vdown"))) = ap app_of_fields c.disable_help_flag.ensures ∙ ap without_help named in
    let bare : app_of c.disable_version_flag.result ≡ bare_line = ap app_of_fields c.disable_version_flag.ensures ∙ ap without_version helpless in
    let one : app_of c.in_ok-arg.field-0 ≡ with_rule bare_line (option (codes "do")) = c.in_ok-arg.ensures.shape c.option.ensures.local ∙ ap₂ with_rule bare c.option.ensures.rule in
    let two = c.in_ok-arg-2.ensures.shape c.option-2.ensures.local ∙ ap₂ with_rule one c.option-2.ensures.rule in
    let three = c.in_ok-arg-3.ensures.shape c.option-3.ensures.local ∙ ap₂ with_rule two c.option-3.ensures.rule in
    let four = c.in_ok-arg-4.ensures.shape c.option-4.ensures.local ∙ ap₂ with_rule three c.option-4.ensures.rule in
    let five = c.in_ok-arg-5.ensures.shape c.option-5.ensures.local ∙ ap₂ with_rule four c.option-5.ensures.rule in
    IfOk-weaker c.arg-6.result _ _ (λ command h. h.shape c.argument.ensures.local ∙ ap₂ with_rule five c.argument.ensures.rule) c.arg-6.ensures
