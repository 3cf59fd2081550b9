use Rattle.std.proofs.Common.{ℕ, IfOk, Option, sym, subst}
use Rattle.vd_forest.specs.Forest.{Forest, nothing, more, with_next}
use Rattle.vd_forms.specs.declared.form.Form.{Form}
use Rattle.vd_regions.specs.Scopes.{declaration_at}
use Rattle.vd_name_rows.specs.Designs.{Outcome}
use Rattle.vd_naming.specs.Ports.{actual, form_of_tree, placed, with_element}
use Rattle.vd_name_expressions.specs.Reads.{IsRead}
use Rattle.vd_name_ports.specs.Maps.{seen_map, IsMapped}
use Rattle.vd_name_ports.proofs.MapLemmas.{seen_kept}
use Rattle.vd_name_ports.proofs.associations.placed.Goals as goal

pub returns-in_ok-read-in-Some-clause-is : goal.returns-in_ok-read-in-Some-clause-is
returns-in_ok-read-in-Some-clause-is c =
    let a = c.args.instance.now.at.now in
    let d = c.args.instance.now.names.now in
    let node = c.args.node.now in
    let k = c.in-Some.port in
    let start = c.args.out.now in
    let read_in = c.actual.new.out in
    let read = c.in_ok-read-in-Some.read in
    let tree = more node.form node.text.now node.place node.parts nothing in
    let come : Option ℕ → Forest Form → Outcome
    = λ t f. actual k t a d node.place (form_of_tree (with_next f nothing)) (with_next f nothing) in
    let own = (declaration_at d.scopes k).mark in
    let o = actual k own a d node.place node.form tree in
    let is =
    subst (λ t. IsRead read_in read (come t (more node.form node.text.now node.place node.parts node.next))) c.mark_of-mark.ensures
    (subst (λ f. IsRead read_in read (come c.mark_of-mark.result f)) c.requires.first c.in_ok-read-in-Some.ensures.is)
    in
    subst (λ p. IfOk c.with_element.result (λ made. IsMapped c.with_element.new.out made
    (placed p a d node.form node.place tree (seen_map start c.args.mapped)))) (sym c.in-Some.is)
    (subst (λ m. IfOk c.with_element.result (λ made. IsMapped c.with_element.new.out made (with_element k node.place o m)))
    (seen_kept start read_in c.args.mapped c.requires.mapped_in c.in_ok-read-in-Some.ensures.extends)
    (c.with_element.ensures.is o is))
