use Rattle.std.proofs.Common.{◌≡◌, ap, subst, sym, ◌∙◌}
use Rattle.std.specs.Prelude.{IfOk}
use Rattle.vd_operations.specs.Roles.{read_role}
use Rattle.vd_meaning.specs.Meanings.{meanings}
use Rattle.vd_meaning.specs.Names.{number_or}
use Rattle.vd_port_modes.specs.Source.{design_in}
use Rattle.vd_contexts.specs.Standing.{standings_in}
use Rattle.vd_value_rules.specs.Standings.{in_brackets, passed_to_function}
use Rattle.vd_contexts.proofs.standings.in_brackets.Goals as goal

pub returns-in-Function : goal.returns-in-Function
returns-in-Function c = λ k ks knows.
    let d = design_in c.args.interfaces.now in
    let ms = meanings d.table c.args.elements.now in
    let n = number_or c.args.node.now.declaration in
    subst (λ r. IfOk c.passed_to.result (λ xs. standings_in d xs.items ≡ in_brackets r d k.env n ms)) (ap read_role (sym c.in-Function.is) ∙ c.role_of.ensures)
    (subst (λ f. IfOk c.passed_to.result (λ xs. standings_in d xs.items ≡ passed_to_function d k.env f ms)) c.function_named-function.ensures (c.passed_to.ensures k ks knows))
