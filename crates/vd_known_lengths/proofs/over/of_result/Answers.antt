use Rattle.std.proofs.Common.{Some, subst}
use Rattle.vd_value_rules.specs.Made.{Indicates}
use Rattle.vd_known_lengths.proofs.OverLemmas.{result_predefined, result_written}
use Rattle.vd_static_values.specs.Entries.{table_of}
use Rattle.vd_value_rules.specs.Knowledge.{at_mark}
use Rattle.vd_known_lengths.proofs.over.of_result.Goals as goal

pub returns-then-is_predefined-clause-is : goal.returns-then-is_predefined-clause-is
returns-then-is_predefined-clause-is c = λ d k sees.
    let g = c.args.over.now.ground in
    result_predefined g.subtypes.now c.of_type.result c.args.function d (table_of g) k.choosing sees.table c.is_predefined.result c.is_predefined.ensures c.if-is_predefined.true
    (subst (λ m. Indicates g.subtypes.now c.of_type.result (at_mark m k.choosing)) c.mark_of.ensures (c.of_type.ensures.is d k sees))

pub returns-else-is_predefined-clause-is : goal.returns-else-is_predefined-clause-is
returns-else-is_predefined-clause-is c = λ d k sees.
    let g = c.args.over.now.ground in
    result_written g.subtypes.now c.of_declaration.result c.args.function d (table_of g) k.choosing sees.table c.is_predefined.result c.is_predefined.ensures c.if-is_predefined.false
    (subst (λ m. Indicates g.subtypes.now c.of_declaration.result (at_mark (Some m) k.choosing)) c.of.ensures (c.of_declaration.ensures.is d k sees))
