use Rattle.std.proofs.Common.{Some, ap, subst, sym, ◌∙◌}
use Rattle.vd_choice_rules.specs.SelectingStatements.{IsSelectingIn, by_parts}
use Rattle.vd_value_rules.specs.Choices.{place_or}
use Rattle.vd_choice_rules.proofs.selecting_statements.selecting_of.Goals as goal

pub returns-clause-selecting : goal.returns-clause-selecting
returns-clause-selecting c = λ d s ks knows revision label.
    let n = c.args.node.now in
    subst (λ z. IsSelectingIn (Some c.in_ok-selecting.selecting) z) (sym (c.parts_of.ensures d s ∙ ap (λ p. by_parts d s n.place n.parts p) c.in-Some.is))
    (c.in_ok-selecting.ensures.selecting d s n.place ks knows revision (c.label_or-place.ensures ∙ ap (λ l. place_or l n.place) (sym label)))
