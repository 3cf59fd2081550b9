use Rattle.vd_static_rules.proofs.StaticLemmas.{list_refused}
use Rattle.vd_static_rules.proofs.statics.sensitivity_refused.Goals as goal

pub returns-in-SensitivityList-clause-finds : goal.returns-in-SensitivityList-clause-finds
returns-in-SensitivityList-clause-finds c = λ d k ks knows.
    list_refused d k.env c.args.form c.args.parts.now c.listed_signals.result c.in-SensitivityList.is (c.listed_signals.ensures.finds d k ks knows)
