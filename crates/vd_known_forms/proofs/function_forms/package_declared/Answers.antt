use Rattle.std.proofs.Common.{sym, ◌∙◌}
use Rattle.vd_known_forms.proofs.FormLemmas.{at_part, package_set}
use Rattle.vd_known_forms.proofs.function_forms.package_declared.Goals as goal

pub returns-then-is_present-clause-knows : goal.returns-then-is_present-clause-knows
returns-then-is_present-clause-knows c = λ d inner k ks knows.
    let parts = c.args.parts.now in
    package_set d c.args.design.now c.set_package.new.self c.args.node.now parts c.fork.result c.number_made-number.result c.number.result inner ks c.set_package.result
    (sym (at_part (λ m. m.is_present) d 1 parts c.skip.result c.skip.ensures) ∙ sym (c.is_present.ensures d.table) ∙ c.if-is_present.true)
    (c.number_made-number.ensures d.table) c.number.ensures c.fork.ensures knows c.set_package.ensures.same c.set_package.ensures.known
