use Rattle.std.proofs.Common.{sym, ◌∙◌}
use Rattle.vd_environments.specs.Environments.{both, never}
use Rattle.vd_meaning.specs.Brackets.{argument_read, arguments_for, operation_called}
use Rattle.vd_meaning.specs.Facets.{known_of}
use Rattle.vd_static_values.specs.Entries.{table_of}
use Rattle.vd_static_nodes.proofs.CallLemmas.{call_named, edge_named}
use Rattle.vd_static_nodes.proofs.brackets.call.Goals as goal

pub returns-then-is_edge-clause-named : goal.returns-then-is_edge-clause-named
returns-then-is_edge-clause-named c = λ e n ms p ground nodes.
    let store = c.args.ground.now.subtypes.now in
    let t = table_of c.args.ground.now in
    edge_named store e t c.args.function n ms p c.fresh.result (operation_called t c.args.function) (sym c.is_edge.ensures ∙ c.if-is_edge.true)
    (λ v. c.fresh.ensures.named store e v n.mark (λ _. never) (argument_read p ms) c.never.ensures (λ local. absurd (cc)))

pub returns-clause-named : goal.returns-clause-named
returns-clause-named c = λ e n ms p ground nodes.
    let store = c.args.ground.now.subtypes.now in
    let t = table_of c.args.ground.now in
    let f = c.args.function in
    let known = c.known_of-known.ensures store e ms nodes in
    let calls = c.calls_known-calls.ensures e ground in
    call_named store e t f n ms p c.called.result (operation_called t f) (sym c.is_edge.ensures ∙ c.if-is_edge.false)
    (c.called.ensures.named store e t f (arguments_for 0 (t.declared f).parameters ms) n.mark (known_of ms) (argument_read p ms) known calls
    (λ local. c.in_ok-value.ensures e ms ground nodes (c.both.ensures ∙ (λ i. both (calls i) (known i))) local))
