use Rattle.std.proofs.Common.{◌≡◌, ◌-◌, ◌≤◌, arith, refl, slice_index_or, ◌∙◌}
use Rattle.vd_static_names.specs.Jumps.{no_jump}
use Rattle.vd_static_names.proofs.JumpLemmas.{gone, nothing_left}
use Rattle.vd_static_names.proofs.jumps.jump_over.Goals as goal

pub loop-left-preserved-then-jump-left : goal.loop-left-preserved-then-jump-left
loop-left-preserved-then-jump-left c =
    let store = c.args.store.now in
    let here = c.loop-left.here in
    let left = c.loop-left.left in
    let jump = slice_index_or c.args.jumps.now here no_jump in
    let is = c.requires.known.are here c.loop-left.invariant.jump_in in
    let older : jump.to ≤ here = is.older in
    record {
      within = omega (arith, older, c.loop-left.invariant.within);
      jump_in = omega (arith, older, c.loop-left.invariant.jump_in);
      is = gone store here jump.to left jump.over (left - jump.over) is.is c.if-jump-left.true refl ∙ c.loop-left.invariant.is;
    }

pub returns-else-here-gt0-clause-is : goal.returns-else-here-gt0-clause-is
returns-else-here-gt0-clause-is c =
    let none : c.loop-left.here ≡ 0 = omega arith in
    nothing_left c.args.store.now c.loop-left.here c.loop-left.left none ∙ c.loop-left.invariant.is
