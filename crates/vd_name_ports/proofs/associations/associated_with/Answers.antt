use Rattle.std.proofs.Common.{IfOk, subst}
use Rattle.vd_forest.specs.Forest.{Forest, nothing, next_of, with_next}
use Rattle.vd_forest.specs.Store.{at}
use Rattle.vd_forest.proofs.StoreLemmas.{extends_trans}
use Rattle.vd_forms.specs.declared.form.Form.{Form}
use Rattle.vd_name_rows.specs.Designs.{Outcome}
use Rattle.vd_naming.specs.Ports.{actual, association_node, form_of_tree, with_element}
use Rattle.vd_name_expressions.specs.Reads.{IsRead}
use Rattle.vd_name_ports.specs.Maps.{IsMapped}
use Rattle.vd_name_ports.proofs.AssociationLemmas.{association_read}
use Rattle.vd_name_ports.proofs.MapLemmas.{seen_kept}
use Rattle.vd_name_ports.proofs.associations.associated_with.Goals as goal

pub returns-clause-is : goal.returns-clause-is
returns-clause-is c =
    let instance = c.args.instance.now in
    let node = c.args.node.now in
    let inside = c.args.inside in
    let start = c.args.out.now in
    let read_in = c.actual.new.out in
    let made_in = c.association_node.new.out in
    let come : Forest Form → Outcome
    = λ v. actual c.args.port c.args.mark.now instance.at.now instance.names.now node.place (form_of_tree (with_next v nothing)) (with_next v nothing) in
    let o = come (next_of node.parts) in
    let whole = association_node node.place node.parts (at start inside.tree) o inside.first in
    let is = subst (λ v. IsRead read_in c.in_ok-read.read (come v)) c.next-value.ensures c.in_ok-read.ensures.is in
    let all =
    association_read start read_in made_in node.place node.parts inside.tree o inside.first c.in_ok-read.read
    (record { tree = c.in_ok-tree.tree; first = c.lesser.result }) c.requires.inside_in c.in_ok-read.ensures.extends is c.in_ok-tree.ensures.holds
    c.lesser.ensures
    in
    subst (λ m. IfOk c.with_element.result (λ made. IsMapped c.with_element.new.out made (with_element c.args.port node.place whole m)))
    (seen_kept start made_in c.args.mapped c.requires.mapped_in
    (extends_trans start read_in made_in c.in_ok-read.ensures.extends c.in_ok-tree.ensures.extends))
    (c.with_element.ensures.is whole all)
