use Rattle.std.proofs.Common.{◌≡◌, ◌∙◌, length, map, drop, sym, ap, subst, arith}
use Rattle.std.proofs.lemmas.List.{length-map}
use Rattle.vd_kernel.specs.declared.orders.Along.TheVariants.{Sources, Actuals}
use Rattle.vd_kernel.specs.Values.{effective}
use Rattle.vd_kernel.specs.Histories.{history_at}
use Rattle.vd_kernel.specs.Orders.{shape_of, IsRingFree, IsOrder}
use Rattle.vd_kernel.specs.SignalValues.{nothing_given, value_at}
use Rattle.vd_kernel.specs.Simulated.{first_history}
use Rattle.vd_kernel.proofs.Placings.{written_back}
use Rattle.vd_kernel.proofs.Currents.{first_history_at}
use Rattle.vd_kernel.proofs.drivers.Drivers.new.Goals as goal

pub invariant_of-result : goal.invariant_of-result
invariant_of-result c =
    let signals = c.in_ok-signals.signals.items in
    let drivers = c.in_ok-lists.lists.items in
    let copied = c.in_ok-signals.ensures ∙ c.deref.ensures.value in
    let values = c.settle.new.values in
    let driving = c.settle.new.driving in
    let v = c.in_ok-effective_values.effective_values in
    let d = c.in_ok-driving_values.driving_values in
    let long : length values ≡ v.len = omega (arith, c.settle.auto.values, c.deref_mut-2.ensures.len) in
    let driving_long : length driving ≡ d.len = omega (arith, c.settle.auto.driving, c.deref_mut.ensures.len) in
    let back = written_back v.len values (drop (length values) v.items) long in
    let driving_back = written_back d.len driving (drop (length driving) d.items) driving_long in
    let free = subst (λ ss. IsRingFree (shape_of ss)) (sym copied) c.requires in
    let n : v.len ≡ length signals = omega (arith, c.in_ok-effective_values.ensures.len, c.len-2.ensures, c.in_ok-signals.signals.ok.0) in
    let m : d.len ≡ length signals = omega (arith, c.in_ok-driving_values.ensures.len, c.len.ensures, c.in_ok-signals.signals.ok.0) in
    let fresh = c.in_ok-fresh_values.ensures.items ∙ c.deref-9.ensures.value ∙ back in
    let past = ap length c.in_ok-past.ensures ∙ length-map c.deref-10.result.now first_history ∙ ap length (c.deref-10.ensures.value ∙ back) in
    record {
      ring_free = free;
      inner = subst (λ ss. IsOrder Sources ss c.in_ok-inner_first.inner_first.items) c.deref-2.ensures.value c.in_ok-inner_first.ensures;
      outer = subst (λ ss. IsOrder Actuals ss c.in_ok-outer_first.outer_first.items) c.deref-3.ensures.value c.in_ok-outer_first.ensures;
      driving_long = ap length driving_back ∙ driving_long ∙ m;
      fresh_long = ap length fresh ∙ long ∙ n;
      effective_long = ap length back ∙ long ∙ n;
      histories_long = past ∙ long ∙ n;
      effective_is = λ i.
          ap (λ vs. value_at vs i) back ∙ c.settle.ensures i
          ∙ ap (λ ss. effective (shape_of ss) nothing_given c.deref-8.result.now i) c.deref-5.ensures.value
          ∙ ap (λ ds. effective (shape_of signals) nothing_given ds i) c.deref-8.ensures.value;
    }

pub returns-clause-histories : goal.returns-clause-histories
returns-clause-histories c = λ i h.
    let signals = c.in_ok-signals.signals.items in
    let values = c.settle.new.values in
    let v = c.in_ok-effective_values.effective_values in
    let long : length values ≡ v.len = omega (arith, c.settle.auto.values, c.deref_mut-2.ensures.len) in
    let back = written_back v.len values (drop (length values) v.items) long in
    let n : v.len ≡ length signals = omega (arith, c.in_ok-effective_values.ensures.len, c.len-2.ensures, c.in_ok-signals.signals.ok.0) in
    ap (λ hs. history_at hs i) (c.in_ok-past.ensures ∙ ap (map first_history) (c.deref-10.ensures.value ∙ back))
    ∙ first_history_at values i (omega (arith, long, n))
    ∙ ap first_history
    (c.settle.ensures i
    ∙ ap (λ ss. effective (shape_of ss) nothing_given c.deref-8.result.now i) c.deref-5.ensures.value
    ∙ ap (λ ds. effective (shape_of signals) nothing_given ds i) c.deref-8.ensures.value)
