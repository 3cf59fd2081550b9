use Rattle.std.proofs.Common.{drop, sym, ap, ◌∙◌, arith}
use Rattle.std.proofs.lemmas.List.{take_rest}
use Rattle.vd_literals.specs.Runs.{goes_on}
use Rattle.vd_literals.proofs.RunLemmas.{more-more, more-stop, more-all}
use Rattle.vd_literals.proofs.runs.more_length.Goals as goal

pub loop-n-preserved : goal.loop-n-preserved
loop-n-preserved c =
    let xs = c.args.rest.now in
    let more = more-more c.args.letters xs c.loop-n.n c.loop-n-test.true (ap (goes_on c.args.letters) (sym (take_rest xs c.loop-n.n)) ∙ sym c.if-continues.ensures) in
    record { within = omega (arith, c.loop-n-test.true); counted = omega (arith, c.loop-n.invariant.counted, more) }
