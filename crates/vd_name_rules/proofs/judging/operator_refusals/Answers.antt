use Rattle.std.proofs.Common.{◌∙◌}
use Rattle.vd_name_rules.proofs.OperatorLemmas.{none_of_1993, first_of_2019}
use Rattle.vd_name_rules.proofs.judging.operator_refusals.Goals as goal

pub returns-in-V1993 : goal.returns-in-V1993
returns-in-V1993 c = c.nothing_refused.ensures ∙ none_of_1993 c.args.revision c.args.tree.now c.in-V1993.is

pub returns-in_ok-of_rules-in-V2019 : goal.returns-in_ok-of_rules-in-V2019
returns-in_ok-of_rules-in-V2019 c =
    first_of_2019 c.args.revision c.args.tree.now c.of.result.declarations.now c.cursor-units.result c.in_ok-of_rules-in-V2019.of_rules c.in-V2019.is
    (c.of.ensures ∙ c.declarations-declarations.ensures) c.cursor-units.ensures c.in_ok-of_rules-in-V2019.ensures
