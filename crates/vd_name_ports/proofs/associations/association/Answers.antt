use Rattle.std.proofs.Common.{◌≡◌, IfOk, ap, sym, subst, ◌∙◌}
use Rattle.vd_forest.specs.Forest.{nothing, more, next_of, parts_of, with_next}
use Rattle.vd_naming.specs.Ports.{front, named_from_here}
use Rattle.vd_name_ports.specs.Fronts.{known_front, by_front}
use Rattle.vd_name_ports.specs.Maps.{seen_map, IsMapped}
use Rattle.vd_name_ports.specs.declared.fronts.Front as code
use Rattle.vd_name_ports.proofs.AssociationLemmas.{associated_by_front}
use Rattle.vd_name_ports.proofs.associations.association.Goals as goal

pub returns-clause-is : goal.returns-clause-is
returns-clause-is c =
    let instance = c.args.instance.now in
    let a = instance.at.now in
    let d = instance.names.now in
    let node = c.args.node.now in
    let start = c.args.out.now in
    let value = with_next (next_of node.parts) nothing in
    let tree = more node.form node.text.now node.place node.parts nothing in
    let there = front d instance.entity (parts_of node.parts) in
    let found : c.in_ok-found.found ≡ known_front there = c.in_ok-found.ensures ∙ ap (λ t. known_front (front d instance.entity t)) c.parts.ensures in
    subst (λ m. IfOk c.associated.result (λ made. IsMapped c.associated.new.out made m))
    (ap (λ (f : code.Front). by_front f instance.entity a d node.place node.parts value tree (seen_map start c.named_from_here-named.result)) found
    ∙ ap (by_front (known_front there) instance.entity a d node.place node.parts value tree) (c.named_from_here-named.ensures.is start)
    ∙ sym (associated_by_front there instance.entity a d node.place node.parts value tree (named_from_here (seen_map start c.args.mapped))))
    c.associated.ensures.is
