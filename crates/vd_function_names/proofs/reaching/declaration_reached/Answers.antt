use Rattle.std.proofs.Common.{◌∙◌, ap, sym}
use Rattle.vd_forest.specs.Forest.{Forest}
use Rattle.vd_function_names.proofs.ReachingLemmas.{reached_is}
use Rattle.vd_function_names.proofs.reaching.declaration_reached.Goals as goal
use Rattle.vd_meaning.specs.Tables.{table}
use Rattle.vd_resolved.specs.declared.node.Resolved.{Resolved}
use Rattle.vd_value_rules.specs.Designs.{Design}
use Rattle.vd_value_rules.specs.Reaching.{reached}

pub loop-piece-init : goal.loop-piece-init
loop-piece-init c = λ revision units.
    let d : Design = record { revision = revision; table = table revision c.args.declarations.now; units = units } in
    let first = c.in_ok-first.first in
    sym (ap (λ (f : Forest Resolved). (reached d f).declaration) c.in_ok-first.ensures
    ∙ reached_is d first.form first.text.now first.place first.parts first.next)
