use Rattle.std.proofs.Common.{◌∙◌, ◌++◌, ◌∷◌, [], sym, ap, take, append-nil}
use Rattle.std.specs.Prelude.{flat_map, slice_index_or}
use Rattle.std.proofs.lemmas.List.{take_more, get_or_read}
use Rattle.std.proofs.lemmas.Grind.{flat_map-append}
use Rattle.vd_kernel.specs.Drivers.{Driver, no_driver}
use Rattle.vd_kernel.specs.Cycles.{times, least}
use Rattle.vd_kernel.specs.Simulated.{earlier_of}
use Rattle.vd_kernel.proofs.EarliestTimes.{least_append}
use Rattle.vd_kernel.proofs.walks.earliest_time.Goals as goal

pub loop-driver-preserved : goal.loop-driver-preserved
loop-driver-preserved c =
    let ds = c.args.drivers.now in
    let k = c.loop-driver.driver-index in
    let d = slice_index_or ds k no_driver in
    let at = get_or_read ds k c.driver-item.result c.loop-driver-test.true c.driver-item.is no_driver in
    let before = flat_map times (take k ds) in
    c.earlier-earliest.ensures
    ∙ ap (λ t. earlier_of t c.next_time.result) c.loop-driver.invariant
    ∙ ap (earlier_of (least before)) (c.next_time.ensures ∙ ap (λ (x : Driver). least (times x)) at)
    ∙ sym (least_append before (times d))
    ∙ ap (λ ts. least (before ++ ts)) (sym (append-nil (times d)))
    ∙ ap least (sym (flat_map-append times (take k ds) (d ∷ [])))
    ∙ ap (λ xs. least (flat_map times xs)) (sym (take_more ds k no_driver c.loop-driver-test.true))
