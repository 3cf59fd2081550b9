use Rattle.std.proofs.Common.{◌≡◌, IfOk, ap, subst, ◌∙◌}
use Rattle.vd_forest.specs.Forest.{Forest, nothing, next_of, parts_of, with_next}
use Rattle.vd_forms.specs.declared.form.Form.{Form}
use Rattle.vd_regions.specs.Scopes.{declaration_at}
use Rattle.vd_name_rows.specs.declared.notes.Formal.{Formal}
use Rattle.vd_name_rows.specs.Designs.{Outcome}
use Rattle.vd_name_rows.specs.Noting.{formal_at}
use Rattle.vd_name_rows.specs.Refusals.{lesser}
use Rattle.vd_naming.specs.Expressions.{mark_of}
use Rattle.vd_naming.specs.Ports.{converted, converted_type, not_back}
use Rattle.vd_name_expressions.specs.Reads.{IsRead}
use Rattle.vd_name_ports.specs.Maps.{seen_map, IsMapped}
use Rattle.vd_name_ports.proofs.AssociationLemmas.{conversion_is}
use Rattle.vd_name_ports.proofs.MapLemmas.{seen_kept}
use Rattle.vd_name_ports.proofs.associations.by_conversion.Goals as goal

pub returns-clause-is : goal.returns-clause-is
returns-clause-is c =
    let instance = c.args.instance.now in
    let a = instance.at.now in
    let d = instance.names.now in
    let node = c.args.node.now in
    let k = c.args.port in
    let start = c.args.out.now in
    let read_in = c.converted.new.out in
    let own = (declaration_at d.scopes k).mark in
    let value = with_next (next_of node.parts) nothing in
    let come : Forest Form → Outcome = λ t. converted instance.entity a d (with_next t nothing) in
    let o = come (parts_of node.parts) in
    let is = subst (λ t. IsRead read_in c.in_ok-read.read (come t)) c.parts.ensures c.in_ok-read.ensures.is in
    let conversion : c.mark_of-conversion.result ≡ mark_of o.tree = c.mark_of-conversion.ensures ∙ ap mark_of (c.cursor.ensures ∙ is.holds.is) in
    let mark : c.converted_type-mark.result ≡ converted_type (formal_at d k).mode (mark_of o.tree) own =
    c.converted_type-mark.ensures
    ∙ ap (λ (f : Formal). converted_type f.mode c.mark_of-conversion.result c.mark_of-own.result) c.formal_at-mode.ensures
    ∙ ap (λ t. converted_type (formal_at d k).mode t c.mark_of-own.result) conversion
    ∙ ap (converted_type (formal_at d k).mode (mark_of o.tree)) c.mark_of-own.ensures
    in
    let back : c.in_ok-back.back ≡ not_back k a d (mark_of o.tree) own value =
    c.in_ok-back.ensures
    ∙ ap (λ v. not_back k a d c.mark_of-conversion.result c.mark_of-own.result (with_next v nothing)) c.next.ensures
    ∙ ap (λ t. not_back k a d t c.mark_of-own.result value) conversion
    ∙ ap (λ t. not_back k a d (mark_of o.tree) t value) c.mark_of-own.ensures
    in
    subst (λ m. IfOk c.associated_with.result (λ made. IsMapped c.associated_with.new.out made m))
    (conversion_is k a d node.place node.parts value o (seen_map start c.args.mapped) (seen_map read_in c.args.mapped) c.converted_type-mark.result _
    c.lesser.result c.in_ok-back.back mark is.holds.is (c.lesser.ensures ∙ ap (λ r. lesser r c.in_ok-back.back) is.first) back
    (seen_kept start read_in c.args.mapped c.requires.mapped_in c.in_ok-read.ensures.extends))
    c.associated_with.ensures.is
