use Rattle.std.proofs.Common.{[], Ok, ap, not, true, ◌∙◌}
use Rattle.vd_environments.specs.Environments.{Static, always}
use Rattle.vd_meaning.specs.Names.{calls_known}
use Rattle.vd_static_values.specs.Entries.{table_of}
use Rattle.vd_static_values.specs.Names.{IsName}
use Rattle.vd_static_nodes.proofs.FirstLemmas.{call_by, no_call}
use Rattle.vd_static_names.proofs.StopLemmas.{left_true}
use Rattle.vd_static_nodes.proofs.firsts.called_here.Goals as goal

pub returns-then-is_none-clause-named : goal.returns-then-is_none-clause-named
returns-then-is_none-clause-named c = λ e ground.
    let store = c.args.ground.now.subtypes.now in
    no_call (table_of c.args.ground.now) c.args.number c.args.mark (IsName store e c.no_name.result) (c.is_none.ensures ∙ ap not c.if-is_none.true) (c.no_name.ensures.named store e)

pub returns-clause-named : goal.returns-clause-named
returns-clause-named c = λ e ground.
    let store = c.args.ground.now.subtypes.now in
    let t = table_of c.args.ground.now in
    let f = c.followed-function.result in
    let same = c.calls_known-calls.ensures e ground in
    call_by t c.args.number f c.args.mark (IsName store e c.called.result) (c.is_none.ensures ∙ ap not c.if-is_none.false) (c.followed-function.ensures c.args.ground.now.revision)
    (c.called.ensures.named store e t f (λ _. []) c.args.mark (λ _. always) (λ _. Ok []) c.always.ensures same
    (λ local. c.in_ok-value.ensures e ground same (ap (λ (s : Static). s.is_local) same ∙ left_true (calls_known t f e).is_local true local)))
