use Rattle.std.proofs.Common.{ap, ◌∙◌}
use Rattle.vd_accepting.proofs.AllGroupLemmas.{groups_joined}
use Rattle.vd_value_rules.specs.Groups.{joined_firsts}
use Rattle.vd_value_rules.specs.declared.firsts.Firsts.{Firsts}
use Rattle.vd_accepting.proofs.all_groups.first_of_groups.Goals as goal

pub returns : goal.returns
returns c =
    let j : Firsts → Firsts → Firsts = joined_firsts in
    c.together.ensures
    ∙ ap (j c.in_ok-names.names) (c.together-with_foreign.ensures ∙ ap (j c.in_ok-foreign.foreign) (c.together-with_assignments.ensures
    ∙ ap (j c.in_ok-assignments.assignments) (c.together-with_values.ensures ∙ ap (j c.in_ok-values.values) (c.together-with_bodies.ensures
    ∙ ap (j c.in_ok-bodies.bodies) c.together-last.ensures))))
    ∙ groups_joined c.args.revision c.args.tree.now c.in_ok-names.names c.in_ok-foreign.foreign c.in_ok-assignments.assignments c.in_ok-values.values
    c.in_ok-bodies.bodies c.in_ok-ports.ports c.in_ok-operators.operators
    c.in_ok-names.ensures c.in_ok-foreign.ensures c.in_ok-assignments.ensures c.in_ok-values.ensures c.in_ok-bodies.ensures c.in_ok-ports.ensures
    c.in_ok-operators.ensures
