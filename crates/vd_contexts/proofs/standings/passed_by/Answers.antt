use Rattle.std.proofs.Common.{◌≡◌, subst, sym}
use Rattle.std.specs.Prelude.{IfOk}
use Rattle.vd_meaning.specs.Meanings.{meanings}
use Rattle.vd_port_modes.specs.Source.{design_in}
use Rattle.vd_contexts.specs.Rows.{passed_by}
use Rattle.vd_contexts.specs.Standing.{standing_of, standings_in}
use Rattle.vd_value_rules.specs.Standings.{passed_to_function, unless_formal}
use Rattle.vd_contexts.proofs.standings.passed_by.Goals as goal

pub returns-in_ok-others-in-Brackets : goal.returns-in_ok-others-in-Brackets
returns-in_ok-others-in-Brackets c = λ k ks knows.
    let d = design_in c.args.interfaces.now in
    subst (λ r. IfOk c.unless_formal.result (λ xs. standings_in d xs.items ≡ passed_by r d k.env (standing_of d c.args.own) c.args.node.now c.args.parts.now)) (sym c.in-Brackets.is)
    (subst (λ ss. IfOk c.unless_formal.result (λ xs. standings_in d xs.items ≡ unless_formal (standing_of d c.args.own) ss)) (c.in_ok-others-in-Brackets.ensures k ks knows)
    (c.unless_formal.ensures d))

pub returns-in-Generics : goal.returns-in-Generics
returns-in-Generics c = λ k ks knows.
    let d = design_in c.args.interfaces.now in
    subst (λ r. IfOk c.in_generic_map.result (λ xs. standings_in d xs.items ≡ passed_by r d k.env (standing_of d c.args.own) c.args.node.now c.args.parts.now)) (sym c.in-Generics.is)
    (c.in_generic_map.ensures k ks knows)

pub returns-in-Operands : goal.returns-in-Operands
returns-in-Operands c = λ k ks knows.
    let d = design_in c.args.interfaces.now in
    subst (λ r. IfOk c.passed_to.result (λ xs. standings_in d xs.items ≡ passed_by r d k.env (standing_of d c.args.own) c.args.node.now c.args.parts.now)) (sym c.in-Operands.is)
    (subst (λ f. IfOk c.passed_to.result (λ xs. standings_in d xs.items ≡ passed_to_function d k.env f (meanings d.table c.args.parts.now))) c.function_named-function.ensures
    (c.passed_to.ensures k ks knows))
