use Rattle.vd_choice_rules.proofs.KnownLemmas.{others_missing}
use Rattle.vd_choice_rules.proofs.texts.missing.Goals as goal

pub returns : goal.returns
returns c = λ s is.
    others_missing c.args.selecting.now s is c.args.is_left_out c.is_others_missing-lacking.result c.refused_if.result c.is_others_missing-lacking.ensures
    c.refused_if.ensures
