use Rattle.std.proofs.Common.{ap, if◌then◌else◌, sym, ◌∙◌}
use Rattle.vd_meaning.specs.Tables.{table}
use Rattle.vd_trees.specs.declared.revision.Revision.TheVariants.{V2019}
use Rattle.vd_match.specs.Writings.{writing_of}
use Rattle.vd_match.specs.declared.writings.Writing.TheVariants as writing
use Rattle.vd_match.proofs.writings.writing_by.Goals as goal

pub returns-then-is_predefined : goal.returns-then-is_predefined
returns-then-is_predefined c =
    let t = table V2019 c.args.declarations.now in
    c.writing_of.ensures ∙ ap (λ b. if b then writing_of t c.args.number else writing.Kept) (sym c.if-is_predefined.true ∙ c.is_predefined.ensures)
