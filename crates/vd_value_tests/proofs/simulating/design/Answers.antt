use Rattle.std.proofs.Common.{◌∙◌, ◌∷◌, ◌++◌, [], sym, ap, subst}
use Rattle.vd_kernel.specs.Orders.{shape_of, IsRingFree}
use Rattle.vd_value_tests.proofs.PairDesign.{pair_ring_free}
use Rattle.vd_value_tests.proofs.simulating.design.Goals as goal

pub returns-clause-ring_free : goal.returns-clause-ring_free
returns-clause-ring_free c =
    let s = c.in_ok-first.first in
    let t = c.in_ok-second.second in
    let one = c.in_ok-push.ensures.items ∙ ap (λ ss. ss ++ s ∷ []) c.new-scalars.ensures.items in
    let two = c.in_ok-push-2.ensures.items ∙ ap (λ ss. ss ++ t ∷ []) one in
    subst (λ ss. IsRingFree (shape_of ss)) (sym two)
    (pair_ring_free s t c.in_ok-first.ensures.sources c.in_ok-second.ensures.sources c.in_ok-first.ensures.actual c.in_ok-second.ensures.actual)
