use Rattle.std.proofs.Common.{[], ap, sym, ◌∙◌}
use Rattle.vd_environments.specs.Environments.{Static}
use Rattle.vd_static_nodes.proofs.firsts.value_of_call.Goals as goal

pub returns : goal.returns
returns c = λ e ground same local. c.call_value.ensures e [] ground tt (ap (λ (s : Static). s.is_local) (sym same) ∙ local)
