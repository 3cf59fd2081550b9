use Rattle.std.proofs.Common.{ap, sym, ◌∙◌}
use Rattle.vd_walks.specs.Least.{least_of, lesser}
use Rattle.vd_meaning.specs.Facets.{nth}
use Rattle.vd_static_rules.proofs.RuleLemmas.{none_left}
use Rattle.vd_static_rules.proofs.StaticLemmas.{actual_more}
use Rattle.vd_static_rules.specs.Elements.{formal_or}
use Rattle.vd_value_rules.specs.StaticNames.{later_actuals_of}
use Rattle.vd_meaning.specs.Meanings.{meanings}
use Rattle.vd_static_rules.proofs.statics.later_actuals.Goals as goal

pub later_actual-requires : goal.later_actual-requires
later_actual-requires c =
    let r = c.requires.ready in
    record { ready = record { design = r.design; now = r.now; round = r.round; knows = c.loop-first.invariant.knows r.design _ r.knows } }

pub loop-first-preserved : goal.loop-first-preserved
loop-first-preserved c =
    let n = c.in-Some.first in
    let left = c.loop-first.left.now in
    record {
      finds = λ d k ks knows.
          let here = c.loop-first.invariant.knows d _ knows in
          actual_more d k.env left c.loop-first.rest n.form n.text.now n.place n.parts n.next c.actual_of.result c.loop-first.found c.lesser-found.result _ c.in_ok-is_later.is_later c.formal_of_element-formal.result
          c.further_numbers-left.result.now c.place_of_actual.result c.refused_if.result
          c.in-Some.ensures (c.formal_of_element-formal.ensures d.table ∙ ap (λ o. formal_or o (nth 0 (meanings d.table c.loop-first.rest))) c.first_number.ensures)
          (c.in_ok-is_later.ensures.is d k ks here) (c.actual_of.ensures d) c.place_of_actual.ensures c.refused_if.ensures c.lesser-found.ensures c.further_numbers-left.ensures
          (c.loop-first.invariant.finds d k ks knows);
      knows = λ d ks knows. c.in_ok-is_later.ensures.knows d ks (c.loop-first.invariant.knows d ks knows);
    }

pub returns-clause-finds : goal.returns-clause-finds
returns-clause-finds c = λ d k ks knows.
    sym (none_left c.loop-first.found) ∙ ap (λ f. lesser c.loop-first.found (least_of (later_actuals_of d k.env c.loop-first.left.now f))) (sym c.in_default.ensures)
    ∙ c.loop-first.invariant.finds d k ks knows
