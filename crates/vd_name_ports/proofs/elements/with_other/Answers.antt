use Rattle.std.proofs.Common.{false, refl, ap, subst, ◌∙◌}
use Rattle.vd_forest.specs.Forest.{nothing, more}
use Rattle.vd_name_rows.specs.Refusals.{lesser}
use Rattle.vd_naming.specs.Ports.{with_other}
use Rattle.vd_name_ports.specs.Maps.{IsMapped}
use Rattle.vd_name_ports.specs.declared.elements.Mapped as code
use Rattle.vd_name_ports.proofs.MapLemmas.{seen_kept, other_added}
use Rattle.vd_name_ports.proofs.elements.with_other.Goals as goal

pub returns-clause-is : goal.returns-clause-is
returns-clause-is c =
    let instance = c.args.instance.now in
    let node = c.args.node.now in
    let tree = more node.form node.text.now node.place node.parts nothing in
    let here = c.unresolved_node.new.out in
    let old = c.args.mapped in
    let made : code.Mapped
    = record { trees = c.in_ok-trees.trees; first = c.lesser-2.result; given = old.given; is_known = false; is_named = old.is_named } in
    subst (λ m. IsMapped c.turn.new.self made (with_other instance.at.now instance.names.now node.place tree m))
    (seen_kept c.args.out.now here old c.requires.mapped_in c.in_ok-tree.ensures.extends)
    (other_added here c.turn.new.self old made instance.at.now instance.names.now node.place tree c.in_ok-tree.tree c.in_ok-inner.inner
    c.in_ok-tree.ensures.holds c.in_ok-trees.ensures.holds c.in_ok-inner.ensures
    (c.lesser-2.ensures ∙ ap (lesser old.first) c.lesser.ensures) refl refl refl)
