use Rattle.std.proofs.Common.{◌∙◌, ◌∷◌, ◌++◌, [], sym, ap, subst}
use Rattle.vd_kernel.specs.Orders.{shape_of, IsRingFree}
use Rattle.vd_value_tests.proofs.BusDesign.{bus_ring_free}
use Rattle.vd_value_tests.proofs.driving.bus.Goals as goal

pub returns-clause-ring_free : goal.returns-clause-ring_free
returns-clause-ring_free c =
    let s = c.in_ok-outer.outer in
    let t = c.in_ok-inner.inner in
    let u = c.in_ok-reader.reader in
    let one = c.in_ok-push.ensures.items ∙ ap (λ ss. ss ++ s ∷ []) c.new-scalars.ensures.items in
    let two = c.in_ok-push-2.ensures.items ∙ ap (λ ss. ss ++ t ∷ []) one in
    let three = c.in_ok-push-3.ensures.items ∙ ap (λ ss. ss ++ u ∷ []) two in
    subst (λ ss. IsRingFree (shape_of ss)) (sym three)
    (bus_ring_free s t u (c.in_ok-outer.ensures.sources ∙ cc) (c.in_ok-inner.ensures.sources ∙ cc) c.in_ok-reader.ensures.sources c.in_ok-outer.ensures.actual c.in_ok-inner.ensures.actual (c.in_ok-reader.ensures.actual ∙ cc))
