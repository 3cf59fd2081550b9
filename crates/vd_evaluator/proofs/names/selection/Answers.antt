use Rattle.std.proofs.Common.{refl, sym, ◌∙◌}
use Rattle.vd_evaluator.proofs.PieceLemmas.{declared_node}
use Rattle.vd_evaluator.proofs.names.selection.Goals as goal

pub returns : goal.returns
returns c = λ parts. declared_node _ _ _ _ parts _ c.in_ok-name.name (sym c.names_element.ensures ∙ c.if-names_element.false) c.in_ok-name.ensures.outline c.in_ok-name.ensures.name c.declared.ensures refl
