use Rattle.vd_instance_rules.proofs.FirstLemmas.{of_names_alone, of_rules_alone}
use Rattle.vd_instance_rules.proofs.firsts.firsts_if.Goals as goal

pub returns-then-rule-lt400 : goal.returns-then-rule-lt400
returns-then-rule-lt400 c = of_names_alone c.args.holds c.args.place c.args.rule c.refused_if-found.result c.if-rule-lt400.true c.refused_if-found.ensures

pub returns-else-rule-lt400 : goal.returns-else-rule-lt400
returns-else-rule-lt400 c = of_rules_alone c.args.holds c.args.place c.args.rule c.refused_if-found.result c.if-rule-lt400.false c.refused_if-found.ensures
