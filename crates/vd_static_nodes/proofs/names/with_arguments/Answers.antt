use Rattle.std.proofs.Common.{subst, sym, ◌∙◌}
use Rattle.vd_meaning.specs.Names.{Named}
use Rattle.std.specs.Prelude.{IfOk}
use Rattle.vd_static_values.specs.Names.{IsName}
use Rattle.vd_static_values.specs.Nodes.{IsBracketed}
use Rattle.vd_static_values.specs.declared.nodes.Bracketed.{Bracketed}
use Rattle.vd_static_nodes.proofs.NameLemmas.{no_callee, with_callee}
use Rattle.vd_static_nodes.proofs.names.with_arguments.Goals as goal

pub returns-then-is_some-clause-named : goal.returns-then-is_some-clause-named
returns-then-is_some-clause-named c = λ e p f is are.
    let store = c.args.ground.now.subtypes.now in
    with_callee (IfOk c.type_attribute_piece.result (λ x. IsName store e x (f p))) p.callee c.args.name.callee (sym c.is_some.ensures ∙ c.if-is_some.true) is.callee
    (λ a callee.
    let argument = are.argument p a callee in
    subst (λ (q : Named). IfOk c.type_attribute_piece.result (λ x. IsName store e x q)) (sym argument.is)
    (c.type_attribute_piece.ensures.named e p a are.value argument.mark are.kn argument.inner is callee are.known are.found))

pub returns-in-Element-clause-named : goal.returns-in-Element-clause-named
returns-in-Element-clause-named c = λ e p f is are.
    let store = c.args.ground.now.subtypes.now in
    let callee = no_callee p.callee c.args.name.callee (sym c.is_some.ensures ∙ c.if-is_some.false) is.callee in
    let otherwise = subst (λ (b : Bracketed). IsBracketed store e b are.kn p (f p)) c.in-Element.is (are.otherwise p callee) in
    subst (λ (q : Named). IsName store e c.element.result q) (sym otherwise.is)
    (c.element.ensures.named e otherwise.mark p otherwise.index are.kn otherwise.inner is are.known)

pub returns-in-Slice-clause-named : goal.returns-in-Slice-clause-named
returns-in-Slice-clause-named c = λ e p f is are.
    let store = c.args.ground.now.subtypes.now in
    let callee = no_callee p.callee c.args.name.callee (sym c.is_some.ensures ∙ c.if-is_some.false) is.callee in
    let otherwise = subst (λ (b : Bracketed). IsBracketed store e b are.kn p (f p)) c.in-Slice.is (are.otherwise p callee) in
    subst (λ (q : Named). IsName store e c.slice.result q) (sym otherwise.is)
    (c.slice.ensures.named e otherwise.mark p otherwise.range are.kn otherwise.inner is are.known otherwise.known)
