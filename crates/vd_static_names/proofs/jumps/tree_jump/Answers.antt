use Rattle.std.proofs.Common.{◌+◌, ◌<◌, ◌≤◌, arith, length, refl, slice_index_or}
use Rattle.vd_static_names.specs.Jumps.{no_jump}
use Rattle.vd_static_names.proofs.JumpLemmas.{step_and_jumps}
use Rattle.vd_static_names.proofs.jumps.tree_jump.Goals as goal

pub returns-then-first-lt-LONGEST : goal.returns-then-first-lt-LONGEST
returns-then-first-lt-LONGEST c =
    let table = c.args.jumps.now in
    let next = c.after-next.result in
    let next_in : next < length table = omega (arith, c.requires.lower_in, c.after-next.ensures.older) in
    let first = slice_index_or table next no_jump in
    let one = c.requires.known.are next next_in in
    let older : first.to ≤ next = one.older in
    let to_in : first.to < length table = omega (arith, older, next_in) in
    let second = slice_index_or table first.to no_jump in
    step_and_jumps c.args.store.now c.args.number next first second (first.over + second.over + 1) c.after-next.ensures.older c.after-next.ensures.next
    one (c.requires.known.are first.to to_in) refl
