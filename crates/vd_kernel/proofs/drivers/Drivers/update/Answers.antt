use Rattle.std.proofs.Common.{◌≡◌, ◌<◌, ◌∙◌, length, drop, ap, arith}
use Rattle.vd_kernel.specs.Values.{effective}
use Rattle.vd_kernel.specs.Histories.{history_at}
use Rattle.vd_kernel.specs.Orders.{shape_of}
use Rattle.vd_kernel.specs.SignalValues.{nothing_given, value_at}
use Rattle.vd_kernel.specs.Simulated.{Simulated, effective_of}
use Rattle.vd_kernel.proofs.HistoryLemmas.{same_after}
use Rattle.vd_kernel.proofs.Placings.{written_back}
use Rattle.vd_kernel.proofs.drivers.Drivers.update.Goals as goal

pub invariant_of-self : goal.invariant_of-self
invariant_of-self c =
    let inv = c.self.invariant in
    let signals = c.self.inside.signals.items in
    let values = c.settle.new.values in
    let driving = c.settle.new.driving in
    let histories = c.note_changes.new.histories in
    let f = c.self.inside.fresh_values in
    let d = c.self.inside.driving_values in
    let p = c.self.inside.past in
    let fresh_long : length values ≡ f.len = omega (arith, c.settle.auto.values, c.deref_mut-3.ensures.len) in
    let driving_long : length driving ≡ d.len = omega (arith, c.settle.auto.driving, c.deref_mut-2.ensures.len) in
    let histories_long : length histories ≡ p.len = omega (arith, c.note_changes.auto.histories, c.deref_mut-4.ensures.len) in
    let fresh = written_back f.len values (drop (length values) f.items) fresh_long in
    let driving_back = written_back d.len driving (drop (length driving) d.items) driving_long in
    let past = written_back p.len histories (drop (length histories) p.items) histories_long in
    let now = c.copy_from_slice.ensures.items ∙ c.deref-7.ensures.value ∙ fresh in
    record {
      ring_free = inv.ring_free;
      inner = inv.inner;
      outer = inv.outer;
      driving_long = ap length driving_back ∙ omega (arith, driving_long, inv.driving_long, d.ok.0);
      fresh_long = ap length fresh ∙ omega (arith, fresh_long, inv.fresh_long, f.ok.0);
      effective_long = ap length now ∙ omega (arith, fresh_long, inv.fresh_long, f.ok.0);
      histories_long = ap length past ∙ omega (arith, histories_long, inv.histories_long, p.ok.0);
      effective_is = λ i.
          ap (λ vs. value_at vs i) now ∙ c.settle.ensures i
          ∙ ap (λ ss. effective (shape_of ss) nothing_given c.deref-4.result.now i) c.deref.ensures.value
          ∙ ap (λ ds. effective (shape_of signals) nothing_given ds i) c.deref-4.ensures.value;
    }

pub returns-clause-histories : goal.returns-clause-histories
returns-clause-histories c = λ i h.
    let inv = c.self.invariant in
    let signals = c.self.inside.signals.items in
    let values = c.settle.new.values in
    let histories = c.note_changes.new.histories in
    let f = c.self.inside.fresh_values in
    let p = c.self.inside.past in
    let fresh_long : length values ≡ f.len = omega (arith, c.settle.auto.values, c.deref_mut-3.ensures.len) in
    let histories_long : length histories ≡ p.len = omega (arith, c.note_changes.auto.histories, c.deref_mut-4.ensures.len) in
    let fresh = written_back f.len values (drop (length values) f.items) fresh_long in
    let past = written_back p.len histories (drop (length histories) p.items) histories_long in
    let known = ap (λ (s : Simulated). length s.signals) c.self.view_is in
    let within : i < length c.deref_mut-4.result.now = omega (arith, h, known, inv.histories_long, c.deref_mut-4.ensures.len, p.ok.0) in
    let old : value_at c.deref-5.result.now i ≡ effective_of c.args.self.now i =
    ap (λ vs. value_at vs i) c.deref-5.ensures.value ∙ inv.effective_is i ∙ ap (λ (s : Simulated). effective_of s i) c.self.view_is in
    let new =
    ap (λ vs. value_at vs i) (c.deref-6.ensures.value ∙ fresh) ∙ c.settle.ensures i
    ∙ ap (λ ss. effective (shape_of ss) nothing_given c.deref-4.result.now i) c.deref.ensures.value
    ∙ ap (λ ds. effective (shape_of signals) nothing_given ds i) c.deref-4.ensures.value in
    let before = ap (λ hs. history_at hs i) c.deref_mut-4.ensures.value ∙ ap (λ (s : Simulated). history_at s.histories i) c.self.view_is in
    ap (λ hs. history_at hs i) past ∙ c.note_changes.ensures i within ∙ same_after _ _ _ _ _ _ old new before
