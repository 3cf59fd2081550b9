use Rattle.std.proofs.Common.{ap, sym, ◌∙◌}
use Rattle.vd_walks.specs.Least.{least_of, lesser}
use Rattle.vd_static_rules.proofs.RuleLemmas.{none_left}
use Rattle.vd_static_rules.proofs.StaticLemmas.{signal_more}
use Rattle.vd_value_rules.specs.StaticNames.{not_static_signals}
use Rattle.vd_static_rules.proofs.statics.listed_signals.Goals as goal

pub is_static_signal-requires : goal.is_static_signal-requires
is_static_signal-requires c =
    let r = c.requires.ready in
    record { ready = record { design = r.design; now = r.now; round = r.round; knows = c.loop-first.invariant.knows r.design _ r.knows } }

pub loop-first-preserved : goal.loop-first-preserved
loop-first-preserved c =
    let n = c.in-Some.first in
    record {
      finds = λ d k ks knows.
          let here = c.loop-first.invariant.knows d _ knows in
          signal_more d k.env c.loop-first.rest n.form n.text.now n.place n.parts n.next c.loop-first.found c.lesser-found.result c.refused_if.result _ c.in_ok-is_static.is_static
          c.in-Some.ensures (c.in_ok-is_static.ensures.is d k ks here) c.refused_if.ensures c.lesser-found.ensures
          (c.loop-first.invariant.finds d k ks knows);
      knows = λ d ks knows. c.in_ok-is_static.ensures.knows d ks (c.loop-first.invariant.knows d ks knows);
    }

pub returns-clause-finds : goal.returns-clause-finds
returns-clause-finds c = λ d k ks knows.
    sym (none_left c.loop-first.found) ∙ ap (λ f. lesser c.loop-first.found (least_of (not_static_signals d k.env f))) (sym c.in_default.ensures)
    ∙ c.loop-first.invariant.finds d k ks knows
