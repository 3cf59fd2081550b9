use Rattle.std.proofs.Common.{◌≡◌, arith, ◌∙◌}
use Rattle.vd_static_names.proofs.JumpLemmas.{nothing_left}
use Rattle.vd_static_names.proofs.fields.skip.Goals as goal

pub returns-else-here-gt0-clause-is : goal.returns-else-here-gt0-clause-is
returns-else-here-gt0-clause-is c =
    let none : c.loop-left.here ≡ 0 = omega arith in
    nothing_left c.args.subtypes.now c.loop-left.here c.loop-left.left none ∙ c.loop-left.invariant.is
