use Rattle.std.proofs.Common.{◌≡◌, ◌<◌, length, ap, ◌∙◌, arith}
use Rattle.std.specs.Prelude.{slice_index}
use Rattle.std.proofs.lemmas.List.{get_or_read}
use Rattle.vd_kernel.specs.declared.orders.Along.TheVariants.{Sources}
use Rattle.vd_kernel.specs.Models.{no_signal}
use Rattle.vd_kernel.specs.SignalValues.{value_at, made_of}
use Rattle.vd_kernel.proofs.SettledValues.{AreSettled, all_settled, driving_past, next_driving, settled_more}
use Rattle.vd_kernel.proofs.values.drive.Goals as goal

pub loop-k-preserved : goal.loop-k-preserved
loop-k-preserved c = λ own eqs.
    let signals = c.args.signals.now in
    let order = c.args.inner_first.now in
    let ds = c.args.drivers.now in
    let values = c.loop-k.values in
    let k = c.loop-k.k in
    let is = c.requires.order in
    let within : k < length order = omega arith in
    let long : length values ≡ length signals = omega (arith, c.requires.long) in
    let i = slice_index order k in
    let at = get_or_read signals i c.index-signals-i.result (is.sorted.within k within) c.index-signals-i.is no_signal in
    let so_far = c.loop-k.invariant own eqs in
    let x = c.value_of_signal-value.ensures ∙ ap (made_of ds (value_at values)) at ∙ next_driving signals order is values long ds own eqs k within so_far in
    settled_more Sources signals order is values long own (driving_past signals ds own eqs) k c.value_of_signal-value.result within x so_far

pub returns : goal.returns
returns c = λ own eqs.
    let signals = c.args.signals.now in
    let order = c.args.inner_first.now in
    let values = c.loop-k.values in
    let long : length values ≡ length signals = omega (arith, c.requires.long) in
    let so_far = c.loop-k.invariant own eqs in
    let all : AreSettled values own order (length order) = λ l h. so_far l (omega arith) in
    all_settled Sources signals order c.requires.order values long own (driving_past signals c.args.drivers.now own eqs) all
