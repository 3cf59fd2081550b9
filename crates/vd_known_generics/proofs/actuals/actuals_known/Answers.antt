use Rattle.std.proofs.Common.{◌≡◌, map, ap, subst, sym, ◌∙◌}
use Rattle.std.specs.Prelude.{IfOk}
use Rattle.vd_known_generics.proofs.ActualLemmas.{all_from}
use Rattle.vd_known_generics.specs.Actuals.{AreActuals}
use Rattle.vd_known_generics.specs.Elements.{AreElements}
use Rattle.vd_known_designs.specs.Contents.{or_nothing}
use Rattle.vd_meaning.specs.Meanings.{map_element, meanings}
use Rattle.vd_known_generics.proofs.actuals.actuals_known.Goals as goal

pub returns-clause-actuals : goal.returns-clause-actuals
returns-clause-actuals c = λ d k ks knows.
    let ys = map map_element (meanings d.table (or_nothing c.args.elements.now)) in
    let after = c.in_ok-nodes.ensures.knows d _ knows in
    let fs = c.args.design.now.table.subtypes in
    let elements = subst (λ xs. AreElements k.env xs ys) (sym c.deref.ensures.value) (c.in_ok-nodes.ensures.elements d k ks knows) in
    let generics = c.generics_of-generics.ensures ∙ ap (λ t. (t.declared c.args.generic).generics) (sym after.table) in
    let copies = c.generics_of-copies.ensures ∙ ap (λ t. (t.declared c.args.instance).generics) (sym after.table) in
    subst (λ gs. IfOk c.actuals_between.result (λ found. AreActuals fs d.table found.items (all_from d k ys 0 gs (d.table.declared c.args.instance).generics))) generics
    (subst (λ cs. IfOk c.actuals_between.result (λ found. AreActuals fs d.table found.items (all_from d k ys 0 c.generics_of-generics.result.now cs))) copies
    (subst (λ gs. IfOk c.actuals_between.result (λ found. AreActuals gs d.table found.items (all_from d k ys 0 c.generics_of-generics.result.now c.generics_of-copies.result.now)))
    c.in_ok-nodes.ensures.subtypes (c.actuals_between.ensures d k ks ys after elements)))
