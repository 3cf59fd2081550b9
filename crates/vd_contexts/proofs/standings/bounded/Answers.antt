use Rattle.std.proofs.Common.{◌≡◌, ◌∙◌, ap, if◌then◌else◌, subst, sym, true}
use Rattle.std.specs.Prelude.{IfOk}
use Rattle.vd_meaning.specs.Meanings.{meanings}
use Rattle.vd_contexts.specs.Rows.{bounded_by, one_evaluated}
use Rattle.vd_contexts.specs.Standing.{standings_in}
use Rattle.vd_value_rules.specs.Standings.{is_bounded, is_bounded_object, is_one_element}
use Rattle.vd_contexts.proofs.standings.bounded.Goals as goal

pub returns-in-ConstantValue-clause-standings : goal.returns-in-ConstantValue-clause-standings
returns-in-ConstantValue-clause-standings c = λ d s ks knows own.
    subst (λ r. IfOk c.of_constant.result (λ xs. standings_in d xs.items ≡ bounded_by r d s c.args.node.now c.args.parts.now)) (sym c.in-ConstantValue.is)
    (c.of_constant.ensures.standings d s c.args.node.now ks knows)

pub returns-in-GenericDefault-clause-standings : goal.returns-in-GenericDefault-clause-standings
returns-in-GenericDefault-clause-standings c = λ d s ks knows own.
    subst (λ r. IfOk c.of_generic.result (λ xs. standings_in d xs.items ≡ bounded_by r d s c.args.node.now c.args.parts.now)) (sym c.in-GenericDefault.is)
    (c.of_generic.ensures.standings d s c.args.node.now ks knows)

pub returns-in-Returned-clause-standings : goal.returns-in-Returned-clause-standings
returns-in-Returned-clause-standings c = λ d s ks knows own.
    subst (λ r. IfOk c.evaluated.result (λ xs. standings_in d xs.items ≡ bounded_by r d s c.args.node.now c.args.parts.now)) (sym c.in-Returned.is)
    (subst (λ b. IfOk c.evaluated.result (λ xs. standings_in d xs.items ≡ one_evaluated b)) (c.is_result_bounded.ensures d s.known ks knows) (c.evaluated.ensures d))

pub returns-in-Elements-clause-standings : goal.returns-in-Elements-clause-standings
returns-in-Elements-clause-standings c = λ d s ks knows own.
    subst (λ r. IfOk c.evaluated-in-Elements.result (λ xs. standings_in d xs.items ≡ bounded_by r d s c.args.node.now c.args.parts.now)) (sym c.in-Elements.is)
    (subst (λ b. IfOk c.evaluated-in-Elements.result (λ xs. standings_in d xs.items ≡ one_evaluated b))
    (c.are_bounded.ensures d.table ∙ ap (λ b. if is_one_element (meanings d.table c.args.parts.now) then b else true) (c.is_bounded.ensures d ∙ ap is_bounded (sym own)))
    (c.evaluated-in-Elements.ensures d))

pub returns-in-Qualified-clause-standings : goal.returns-in-Qualified-clause-standings
returns-in-Qualified-clause-standings c = λ d s ks knows own.
    subst (λ r. IfOk c.evaluated-in-Qualified.result (λ xs. standings_in d xs.items ≡ bounded_by r d s c.args.node.now c.args.parts.now)) (sym c.in-Qualified.is)
    (subst (λ b. IfOk c.evaluated-in-Qualified.result (λ xs. standings_in d xs.items ≡ one_evaluated b))
    (c.are_bounded-in-Qualified.ensures d.table
    ∙ ap (λ b. if is_one_element (meanings d.table c.args.parts.now) then b else true)
    (c.is_bounded-in-Qualified.ensures d s.known ks knows ∙ ap (is_bounded_object s.known.env) (c.of-mark.ensures ∙ c.number_or.ensures)))
    (c.evaluated-in-Qualified.ensures d))
