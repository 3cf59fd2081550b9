use Rattle.std.proofs.Common.{ap, ◌∙◌}
use Rattle.std.specs.Prelude.{slice_index_or}
use Rattle.vd_meaning.specs.Tables.{table, role, no_declaration}
use Rattle.vd_plain_values.specs.Plain.{no_entry, signal_in}
use Rattle.vd_evaluator.proofs.PieceLemmas.{signal_name}
use Rattle.vd_evaluator.proofs.words.first_name.Goals as goal

pub returns-in_ok-found-in-Signal-clause-name : goal.returns-in_ok-found-in-Signal-clause-name
returns-in_ok-found-in-Signal-clause-name c = λ e holds.
    signal_name (table c.args.revision c.args.declarations.now) c.args.environment.now c.args.node c.in-Some.declaration c.class_of.result e c.in_ok-found-in-Signal.found c.in-Some.is
    (c.class_of.ensures ∙ ap (λ k. (slice_index_or c.args.declarations.now k no_declaration).class) c.number.ensures) (ap role c.in-Signal.is) holds
    (c.in_ok-found-in-Signal.ensures ∙ ap (λ k. signal_in (slice_index_or c.args.environment.now k no_entry).signal) c.number-in-Signal.ensures)

pub returns-in_ok-found-in-Port-clause-name : goal.returns-in_ok-found-in-Port-clause-name
returns-in_ok-found-in-Port-clause-name c = λ e holds.
    signal_name (table c.args.revision c.args.declarations.now) c.args.environment.now c.args.node c.in-Some.declaration c.class_of.result e c.in_ok-found-in-Port.found c.in-Some.is
    (c.class_of.ensures ∙ ap (λ k. (slice_index_or c.args.declarations.now k no_declaration).class) c.number.ensures) (ap role c.in-Port.is) holds
    (c.in_ok-found-in-Port.ensures ∙ ap (λ k. signal_in (slice_index_or c.args.environment.now k no_entry).signal) c.number-in-Port.ensures)
