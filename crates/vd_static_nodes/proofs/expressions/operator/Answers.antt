use Rattle.std.proofs.Common.{◌≡◌, ap, subst, sym, true, ◌∙◌}
use Rattle.vd_environments.specs.Environments.{both}
use Rattle.vd_environments.specs.Got.{is_got}
use Rattle.vd_meaning.specs.Facets.{arguments, known_of}
use Rattle.vd_meaning.specs.Meanings.{operator}
use Rattle.vd_meaning.specs.Names.{call_known, calls_known, unless_stopped}
use Rattle.vd_meaning.specs.Operators.{function_of}
use Rattle.vd_meaning.specs.Tables.{followed}
use Rattle.vd_static_values.specs.Entries.{IsFound, table_of}
use Rattle.vd_static_values.specs.Nodes.{IsNode}
use Rattle.vd_static_nodes.proofs.OperatorLemmas.{unless_late}
use Rattle.vd_static_names.proofs.StopLemmas.{left_true, right_true}
use Rattle.vd_static_parts.proofs.StaticLemmas.{not_local, unless_found}
use Rattle.vd_static_values.specs.Operands.{AreOperands}
use Rattle.vd_static_nodes.proofs.expressions.operator.Goals as goal

pub returns-then-not-known-clause-node : goal.returns-then-not-known-clause-node
returns-then-not-known-clause-node c = λ e ms seen are.
    let store = c.args.ground.now.subtypes.now in
    let t = table_of c.args.ground.now in
    let d = c.followed-number.result in
    let sort = c.both-known.ensures ∙ (λ i. both (c.calls_known.ensures e seen i) (c.known_of.ensures store e ms are i)) in
    let same = c.followed-number.ensures c.args.ground.now.revision ∙ ap (followed t) c.number_or.ensures in
    subst (λ m. IsNode store e c.expression.result (operator t m c.args.node c.args.text.now ms)) same
    (c.expression.ensures.node store e ms (λ _ f. function_of t d f (arguments ms f))
    (λ f. unless_stopped (function_of t d f (arguments ms f)) (call_known t d (known_of ms f) f))
    (unless_late c.both-known.result (call_known t d (known_of ms e) e) (function_of t d e (arguments ms e)) sort c.if-not-known.true)
    (λ local given.
    absurd (not_local c.both-known.result (call_known t d (known_of ms e) e) sort c.if-not-known.true
    (left_true (call_known t d (known_of ms e) e).is_local (is_got (function_of t d e (arguments ms e))) local))))

pub returns-clause-node : goal.returns-clause-node
returns-clause-node c = λ e ms seen are.
    let store = c.args.ground.now.subtypes.now in
    let t = table_of c.args.ground.now in
    let d = c.followed-number.result in
    let k = c.both-known.result in
    let value = c.in_ok-value.value in
    let sort = c.both-known.ensures ∙ (λ i. both (c.calls_known.ensures e seen i) (c.known_of.ensures store e ms are i)) in
    let same = c.followed-number.ensures c.args.ground.now.revision ∙ ap (followed t) c.number_or.ensures in
    let found : (call_known t d (known_of ms e) e).is_local ≡ true → IsFound value (function_of t d e (arguments ms e)) =
    λ local.
    c.in_ok-value.ensures e (arguments ms e) seen
    (subst (AreOperands (arguments ms e)) (sym c.deref.ensures.value)
    (c.in_ok-operands.ensures store e ms are (right_true (calls_known t d e).is_local (known_of ms e).is_local local)))
    (left_true (calls_known t d e).is_local (known_of ms e).is_local local) in
    let known =
    unless_found value (function_of t d e (arguments ms e)) c.is_some.result k c.unless_stopped-known.result (call_known t d (known_of ms e) e) found c.is_some.ensures sort
    c.unless_stopped-known.ensures in
    subst (λ m. IsNode store e c.expression-2.result (operator t m c.args.node c.args.text.now ms)) same
    (c.expression-2.ensures.node store e ms (λ _ f. function_of t d f (arguments ms f))
    (λ f. unless_stopped (function_of t d f (arguments ms f)) (call_known t d (known_of ms f) f)) known
    (λ local given. found (left_true (call_known t d (known_of ms e) e).is_local (is_got (function_of t d e (arguments ms e))) local)))
