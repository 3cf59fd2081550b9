use Rattle.std.proofs.Common.{ap, sym, ◌∙◌}
use Rattle.vd_walks.specs.Least.{least_of, lesser}
use Rattle.vd_meaning.specs.Facets.{nth}
use Rattle.vd_meaning.specs.Meanings.{meanings}
use Rattle.vd_static_rules.proofs.RuleLemmas.{none_left}
use Rattle.vd_static_rules.specs.Elements.{formal_or}
use Rattle.vd_static_rules.proofs.TypeLemmas.{type_more}
use Rattle.vd_value_rules.specs.Types.{type_actuals}
use Rattle.vd_static_rules.proofs.types.type_actuals.Goals as goal

pub loop-first-preserved : goal.loop-first-preserved
loop-first-preserved c = λ d k ks cs knows table.
    let n = c.in-Some.first in
    type_more d k.env cs c.loop-first.left.now c.loop-first.rest n.form n.text.now n.place n.parts n.next c.loop-first.found c.lesser-found.result _ c.is_refused_type-is_refused.result c.formal_of_element-formal.result
    c.copy_of-copy.result c.further_numbers-left.result.now c.place_of_actual.result c.refused_if.result
    c.in-Some.ensures (c.formal_of_element-formal.ensures d.table ∙ ap (λ o. formal_or o (nth 0 (meanings d.table c.loop-first.rest))) c.first_number.ensures)
    (c.copy_of-copy.ensures cs table) (c.is_refused_type-is_refused.ensures d k ks knows) c.place_of_actual.ensures c.refused_if.ensures c.lesser-found.ensures c.further_numbers-left.ensures
    (c.loop-first.invariant d k ks cs knows table)

pub returns : goal.returns
returns c = λ d k ks cs knows table.
    sym (none_left c.loop-first.found) ∙ ap (λ f. lesser c.loop-first.found (least_of (type_actuals d k.env cs c.loop-first.left.now f))) (sym c.in_default.ensures)
    ∙ c.loop-first.invariant d k ks cs knows table
