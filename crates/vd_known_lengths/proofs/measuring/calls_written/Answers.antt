use Rattle.std.proofs.Common.{ap, ◌∙◌}
use Rattle.vd_meaning.specs.Tables.{followed}
use Rattle.vd_static_values.specs.Entries.{table_of}
use Rattle.vd_known_lengths.proofs.OverLemmas.{written_is}
use Rattle.vd_known_lengths.proofs.measuring.calls_written.Goals as goal

pub returns-then-is_some : goal.returns-then-is_some
returns-then-is_some c = λ d same.
    let g = c.args.over.now.ground in
    written_is d g c.args.node c.is_operator.result c.is_some.result c.is_predefined.result c.followed-function.result c.is_operator.ensures c.is_some.ensures
    (c.followed-function.ensures g.revision ∙ ap (followed (table_of g)) c.number_or.ensures) c.is_predefined.ensures same c.if-is_operator.true c.if-is_some.true
