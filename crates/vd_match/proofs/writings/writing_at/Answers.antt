use Rattle.std.proofs.Common.{ap, sym, ◌∙◌}
use Rattle.vd_meaning.specs.Tables.{table}
use Rattle.vd_trees.specs.declared.revision.Revision.TheVariants.{V2019}
use Rattle.vd_match.specs.Writings.{writing_at, writing_by}
use Rattle.vd_match.proofs.writings.writing_at.Goals as goal

pub returns-in-Some : goal.returns-in-Some
returns-in-Some c =
    let t = table V2019 c.args.declarations.now in
    c.writing_by.ensures ∙ ap (writing_by t) c.number.ensures ∙ ap (writing_at t) (sym c.in-Some.is)
