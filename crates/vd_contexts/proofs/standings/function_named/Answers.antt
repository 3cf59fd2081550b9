use Rattle.std.proofs.Common.{◌∙◌, ap}
use Rattle.vd_meaning.specs.Tables.{followed, table}
use Rattle.vd_contexts.proofs.standings.function_named.Goals as goal

pub returns : goal.returns
returns c =
    let i = c.args.interfaces.now in
    c.followed.ensures i.revision ∙ ap (λ ds. followed (table i.revision ds) c.number_or.result) c.declarations.ensures
    ∙ ap (λ n. followed (table i.revision i.tree.declarations) n) c.number_or.ensures
