use Rattle.vd_choice_rules.proofs.KnownLemmas.{lengthless_refused}
use Rattle.vd_choice_rules.proofs.texts.refused_lengthless.Goals as goal

pub returns : goal.returns
returns c = λ e s is.
    lengthless_refused c.args.selecting.now s is e c.missing.result c.lesser.result (c.missing.ensures s is) c.lesser.ensures
