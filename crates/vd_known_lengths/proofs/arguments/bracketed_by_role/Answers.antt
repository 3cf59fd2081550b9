use Rattle.std.proofs.Common.{subst, sym}
use Rattle.vd_operations.specs.Roles.{read_role}
use Rattle.vd_meaning.specs.Facets.{nth}
use Rattle.vd_meaning.specs.Meanings.{meanings}
use Rattle.vd_known_lengths.specs.Extents.{IsExtent}
use Rattle.vd_value_rules.specs.Knowledge.{at_mark}
use Rattle.vd_value_rules.specs.Lengths.{brackets_shaped, shaped_as}
use Rattle.vd_known_lengths.proofs.arguments.bracketed_by_role.Goals as goal

pub returns-in-Mark-clause-is : goal.returns-in-Mark-clause-is
returns-in-Mark-clause-is c = λ d k ss p sees is.
    let store = c.args.over.now.ground.subtypes.now in
    subst (λ r. IsExtent store c.typed.result (brackets_shaped (read_role r) d k c.args.node (nth 0 (meanings d.table c.args.parts.now)) ss p)) (sym c.in-Mark.is)
    (subst (λ l. IsExtent store c.typed.result (shaped_as (at_mark c.args.node.mark k.choosing) l)) (sym is) (c.typed.ensures.is d k sees))
