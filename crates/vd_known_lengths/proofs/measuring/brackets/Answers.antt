use Rattle.std.proofs.Common.{None, if◌then◌else◌, subst, sym, ◌∙◌}
use Rattle.vd_known_lengths.specs.Extents.{IsMeasured}
use Rattle.vd_value_rules.specs.Lengths.{nth_shaping, of_type_of, shaping_as}
use Rattle.vd_known_lengths.proofs.measuring.brackets.Goals as goal

pub returns-else-is_one_element-clause-is : goal.returns-else-is_one_element-clause-is
returns-else-is_one_element-clause-is c = λ d k ss sees are.
    let n = c.args.tree.now.form in
    subst (λ b. IsMeasured c.args.over.now.ground.subtypes.now c.alone.result (if b then nth_shaping 0 ss else shaping_as (of_type_of k n None)))
    (sym c.if-is_one_element.false ∙ c.is_one_element.ensures d.table) (c.alone.ensures.is (of_type_of k n None) (c.typed.ensures.is d k sees))
