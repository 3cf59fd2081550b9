use Rattle.std.proofs.Common.{ap, arith, length, ◌==◌, ◌≡◌, ◌∙◌}
use Rattle.vd_instance_rules.proofs.ModeLemmas.{part_of_view}
use Rattle.vd_port_modes.specs.Source.{design_in}
use Rattle.vd_instance_rules.proofs.modes.is_part_of_view.Goals as goal

pub returns-then-names_view_port : goal.returns-then-names_view_port
returns-then-names_view_port c =
    let fields = c.args.name.now.fields in
    let count : fields.len ≡ length fields.items = omega (arith, fields.ok.0) in
    part_of_view (design_in c.args.interfaces.now) c.args.name.now c.names_view_port.result c.is_empty.result c.names_view_port.ensures c.if-names_view_port.true
    (c.is_empty.ensures ∙ ap (λ n. n == 0) count)
