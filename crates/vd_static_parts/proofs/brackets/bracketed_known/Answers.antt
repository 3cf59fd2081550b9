use Rattle.std.proofs.Common.{ap, arith, ◌∙◌}
use Rattle.vd_environments.specs.Environments.{only_global}
use Rattle.vd_static_parts.proofs.BracketLemmas.{known_of_many}
use Rattle.vd_static_parts.proofs.brackets.bracketed_known.Goals as goal

pub returns-else-parts-eq1 : goal.returns-else-parts-eq1
returns-else-parts-eq1 c = λ subtypes e ms are.
    c.only_global.ensures ∙ ap only_global (c.known_of.ensures subtypes e ms are)
    ∙ known_of_many subtypes e c.args.parts.now ms (λ one. omega arith) are
