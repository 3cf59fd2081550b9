use Rattle.std.proofs.Common.{ap, sym, ◌≡◌, ◌∙◌}
use Rattle.vd_forest.specs.Store.{at}
use Rattle.vd_value_rules.specs.Indicated.{indicated_in}
use Rattle.vd_meaning.specs.Names.{number_or}
use Rattle.vd_meaning.specs.Tables.{followed}
use Rattle.vd_known_lengths.proofs.OverLemmas.{same_extent}
use Rattle.vd_static_values.specs.Entries.{table_of}
use Rattle.vd_value_rules.specs.Declaring.{result_in}
use Rattle.vd_known_lengths.proofs.declared.called.Goals as goal

pub returns-clause-is : goal.returns-clause-is
returns-clause-is c = λ d k sees.
    let g = c.args.over.now.ground in
    let store = g.subtypes.now in
    let function : c.followed-function.result ≡ followed d.table (number_or c.args.declaration) =
    c.followed-function.ensures g.revision ∙ ap (followed (table_of g)) c.number_or.ensures ∙ ap (λ t. followed t (number_or c.args.declaration)) (sym sees.table) in
    same_extent store c.of_subtype.result (indicated_in (at store c.of_result-number.result)) (result_in d (followed d.table (number_or c.args.declaration)) k.choosing)
    ((c.of_result-number.ensures.is d k sees).is ∙ ap (λ n. result_in d n k.choosing) function) c.of_subtype.ensures
