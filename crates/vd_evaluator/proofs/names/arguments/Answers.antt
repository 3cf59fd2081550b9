use Rattle.std.proofs.Common.{refl, sym, ◌∙◌}
use Rattle.vd_evaluator.proofs.PieceLemmas.{index_node}
use Rattle.vd_evaluator.proofs.names.arguments.Goals as goal

pub returns-in_ok-what-in-Other : goal.returns-in_ok-what-in-Other
returns-in_ok-what-in-Other c = index_node _ _ _ _ c.args.parts.now _ (sym c.in-Other.is ∙ c.calling.ensures) c.in_ok-what-in-Other.ensures refl
