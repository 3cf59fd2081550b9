use Rattle.std.proofs.Common.{ap, ◌∙◌}
use Rattle.vd_naming.specs.Ports.{no_map, with_trees, missing_port}
use Rattle.vd_regions.specs.Scopes.{declaration_at}
use Rattle.vd_name_ports.specs.Maps.{seen_map}
use Rattle.vd_name_ports.proofs.MapLemmas.{map_made}
use Rattle.vd_name_ports.proofs.maps.map_of.Goals as goal

pub returns-clause-is : goal.returns-clause-is
returns-clause-is c =
    let instance = c.args.instance.now in
    let a = instance.at.now in
    let d = instance.names.now in
    let node = c.args.node.now in
    let here = c.with_trees.new.out in
    let all = c.in_ok-mapped.mapped in
    map_made a d node.form node.text.now node.place (declaration_at d.scopes instance.entity).parameters here c.turn.new.self c.add_node.new.out all
    (with_trees instance.entity a d 0 node.parts no_map) c.in_ok-parts.parts (record { tree = c.in_ok-tree.tree; first = c.lesser.result })
    c.missing_port-missing.result c.in_ok-mapped.ensures.is.is c.in_ok-parts.ensures.holds c.in_ok-tree.ensures.holds
    (c.missing_port-missing.ensures here ∙ ap (λ ports. missing_port a d ports (seen_map here all)) c.parameters_of-ports.ensures) c.lesser.ensures
