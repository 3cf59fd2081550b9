use Rattle.std.proofs.Common.{ap, ◌∙◌}
use Rattle.vd_meaning.specs.Tables.{sort_of, table}
use Rattle.vd_trees.specs.declared.revision.Revision.TheVariants.{V2019}
use Rattle.vd_value_rules.specs.Operators.{is_nine_valued}
use Rattle.vd_name_rules.proofs.operators.is_of_nine_values.Goals as goal

pub returns : goal.returns
returns c = c.is_nine_valued.ensures ∙ ap is_nine_valued (c.sort_of.ensures V2019 ∙ ap (sort_of (table V2019 c.args.declarations.now)) c.mark_of-mark.ensures)
