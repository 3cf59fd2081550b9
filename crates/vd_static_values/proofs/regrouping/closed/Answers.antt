use Rattle.std.proofs.Common.{ap, sym, ◌∙◌}
use Rattle.vd_static_values.proofs.LevelLemmas.{all_closed, one_closed}
use Rattle.vd_static_values.specs.Levels.{closed, lists_in, regrouped}
use Rattle.vd_static_values.proofs.regrouping.closed.Goals as goal

pub loop-arrays-preserved : goal.loop-arrays-preserved
loop-arrays-preserved c =
    one_closed c.loop-arrays.outer.items c.pop.new.self.items c.in-Some.arrays c.loop-arrays.values.items c.in_ok-values.values.items (closed (lists_in c.args.outer.items) c.args.inner.items)
    c.in-Some.ensures.items
    (c.in_ok-values.ensures ∙ ap (λ vs. regrouped vs c.deref-in-Some.result.now) c.deref.ensures.value ∙ ap (regrouped c.in-Some.arrays.items) c.deref-in-Some.ensures.value) c.loop-arrays.invariant

pub returns : goal.returns
returns c =
    let outer = c.loop-arrays.outer in
    all_closed outer.items c.loop-arrays.values.items (closed (lists_in c.args.outer.items) c.args.inner.items) (sym outer.ok.0 ∙ c.in_default.ensures.cases.0) c.loop-arrays.invariant
