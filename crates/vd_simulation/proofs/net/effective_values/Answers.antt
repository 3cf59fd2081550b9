use Rattle.std.proofs.Common.{◌≡◌, ◌≤◌, length, sym, ◌∙◌, ⊎_elim, arith}
use Rattle.std.proofs.lemmas.Bool.{cases_lt}
use Rattle.std.proofs.lemmas.List.{get_or_past}
use Rattle.vd_values.specs.declared.scalar.Scalar.TheVariants.{Literal}
use Rattle.vd_kernel.specs.Orders.{shape_of}
use Rattle.vd_simulation.proofs.PastSignals.{effective_past}
use Rattle.vd_simulation.proofs.net.effective_values.Goals as goal

pub returns-clause-values : goal.returns-clause-values
returns-clause-values c = λ i.
    let values = c.loop-i.values.items in
    let signals = c.args.drivers.now.signals in
    let all : length values ≡ length signals = omega (arith, c.loop-i.invariant.long, c.requires) in
    ⊎_elim
    (λ lt. c.loop-i.invariant.held i (omega (arith, c.loop-i.invariant.long)))
    (λ le.
    let past : length signals ≤ i = omega arith in
    get_or_past values i (Literal 0) le ∙ sym (effective_past (shape_of signals) c.args.drivers.now.drivers i past))
    (cases_lt i (length values))
