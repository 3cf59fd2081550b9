use Rattle.std.proofs.Common.{◌≡◌, ◌<◌, length, ap, ◌∙◌, arith}
use Rattle.std.specs.Prelude.{slice_index, slice_index_or, pos}
use Rattle.std.proofs.lemmas.List.{get_or_read, get_or_default}
use Rattle.vd_values.specs.declared.scalar.Scalar.TheVariants.{Integer, Literal}
use Rattle.vd_kernel.specs.declared.orders.Along.TheVariants.{Actuals}
use Rattle.vd_kernel.specs.Models.{Signal, no_signal}
use Rattle.vd_kernel.specs.Values.{through}
use Rattle.vd_kernel.specs.SignalValues.{value_at}
use Rattle.vd_kernel.proofs.SettledValues.{AreSettled, all_settled, effective_past, next_effective, settled_more}
use Rattle.vd_kernel.proofs.values.spread.Goals as goal

pub loop-k-preserved : goal.loop-k-preserved
loop-k-preserved c = λ own outer eqs hold.
    let signals = c.args.signals.now in
    let order = c.args.outer_first.now in
    let driving = c.args.driving.now in
    let values = c.loop-k.values in
    let k = c.loop-k.k in
    let is = c.requires.order in
    let within : k < length order = omega arith in
    let long : length values ≡ length signals = omega (arith, c.requires.long) in
    let i = slice_index order k in
    let inside = is.sorted.within k within in
    let at = get_or_read signals i c.index-signals-i.result inside c.index-signals-i.is no_signal in
    let so_far = c.loop-k.invariant own outer eqs hold in
    let default = Integer (pos 0) in
    let read = get_or_default driving i default (Literal 0) (omega (arith, c.requires.driving_long)) in
    let x =
    c.value_through-value.ensures
    ∙ ap (λ (s : Signal). through s.actual (value_at values) (slice_index_or driving i default)) at
    ∙ ap (through (slice_index_or signals i no_signal).actual (value_at values)) read
    ∙ next_effective signals order is values long driving c.requires.driving_long own outer eqs hold k within so_far in
    settled_more Actuals signals order is values long outer (effective_past signals own outer driving eqs hold c.requires.driving_long) k c.value_through-value.result within x so_far

pub returns : goal.returns
returns c = λ own outer eqs hold.
    let signals = c.args.signals.now in
    let order = c.args.outer_first.now in
    let values = c.loop-k.values in
    let long : length values ≡ length signals = omega (arith, c.requires.long) in
    let so_far = c.loop-k.invariant own outer eqs hold in
    let all : AreSettled values outer order (length order) = λ l h. so_far l (omega arith) in
    all_settled Actuals signals order c.requires.order values long outer (effective_past signals own outer c.args.driving.now eqs hold c.requires.driving_long) all
