use Rattle.std.proofs.Common.{ap, ◌∙◌}
use Rattle.vd_meaning.specs.Tables.{followed, table}
use Rattle.vd_name_rules.proofs.OperatorLemmas.{named_refused}
use Rattle.vd_trees.specs.declared.revision.Revision.TheVariants.{V2019}
use Rattle.vd_name_rules.proofs.operators.Operators.are_named.Goals as goal

pub returns : goal.returns
returns c =
    let self = c.args.self.now in
    named_refused self.declarations.now self.refused.now c.args.declaration c.in-Some.named c.followed-number.result c.told.result self.is_table c.in-Some.is
    (c.followed-number.ensures V2019 ∙ ap (followed (table V2019 self.declarations.now)) c.number.ensures) c.told.ensures
